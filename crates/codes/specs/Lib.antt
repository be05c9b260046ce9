-- The bound that a code names.
pub mod Codes
