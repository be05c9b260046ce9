-- What the proofs about a line share.
mod Wishes
mod Effects
-- what other crates may cite
pub mod Judges
pub mod Stores
pub mod One
