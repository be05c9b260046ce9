-- How the leaf functions on bytes answer.
pub mod Bytes
pub mod Number
pub mod Answers
pub mod Words
