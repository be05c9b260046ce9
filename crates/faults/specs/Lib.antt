-- The faults of the first line and of a record.
pub mod Faults
