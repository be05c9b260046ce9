-- What the tests say, one by one and in a row.
pub mod Tests
mod Peaks
pub mod Allowed
pub mod Firsts
