-- What the functions for Rust and C answer.
pub mod Asked
