-- The pieces of a text, the walk over its lines, the answer from what its parts answer, and that any two answers are equal.
mod Pieces
pub mod Steps
pub mod Answers
pub mod Same
