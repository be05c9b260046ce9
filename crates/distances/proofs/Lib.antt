-- The laws that belong to no one function; `Net` has those that callers use, `One` that any two results of a promise are equal.
pub mod Sweep
pub mod Rows
pub mod Range
pub mod Net
pub mod One
