-- Documents 01 and 02 as definitions, a file a section: what must be believed.
pub mod Plan
pub mod Numbers
pub mod Peak
pub mod Run
pub mod Reading
pub mod Bounds
pub mod Ladder
pub mod Outcome
pub mod Short
pub mod Known
-- what it all comes to, for a caller
pub mod Demands
-- what the contracts of the crates above speak of besides: no part of the public promise
pub mod Faultless
pub mod Distances
pub mod Climb
