-- Which words ask for what.
pub mod Asks
