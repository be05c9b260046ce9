-- The outcome of a plan in memory.
pub mod Lent
pub mod Settled
