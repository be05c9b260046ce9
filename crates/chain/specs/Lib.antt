-- What the contracts of `chain` cite: the clash for callers, and the marks within.
pub mod Clash
pub mod Marks
