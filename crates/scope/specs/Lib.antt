-- What the numbers of faults are.
pub mod Faults
