-- What the contracts of `distances` cite: the matrix for callers, and the rows within it.
pub mod Sweep
pub mod Matrix
pub mod Rows
