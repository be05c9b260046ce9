-- How a plan stands in memory.
pub mod Held
