-- The kit for signed numbers: laws and the ruleset.
pub mod Ticks
pub mod Shown
