-- What the contracts of `ladder` cite.
pub mod Climbed
pub mod Climbing
