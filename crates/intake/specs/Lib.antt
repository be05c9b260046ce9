-- Which failures of a read end it, and a text that reads gather.
pub mod Kinds
pub mod Gathered
