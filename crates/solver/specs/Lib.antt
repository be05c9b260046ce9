-- What the entry point promises.
pub mod Solves
