-- What is true of the definitions.
-- closed distances
pub mod Distances
-- levels and the ladder
pub mod Runs
pub mod Peaks
pub mod Replies
pub mod Questions
pub mod Best
pub mod Climb
pub mod Levels
pub mod Fair
pub mod Wishes
-- parts of a list, areas and rows of times
pub mod Slices
pub mod Over
pub mod Times
pub mod Agree
-- a text's reading
pub mod Tests
pub mod Zeros
pub mod ReadGood
pub mod Refusals
-- the known plans
pub mod All
pub mod EveryRow
pub mod ChainTest
pub mod WrongChains
pub mod KnownRight
-- bounds, chains, and that an outcome exists
pub mod Distinct
pub mod Pigeons
pub mod Bounds
pub mod Stands
pub mod Spans
pub mod Walks
pub mod Chains
pub mod Sums
pub mod Short
pub mod Exists
pub mod Solve
pub mod Promises
-- the known plans have no other outcome
pub mod KnownAlone
-- what it all comes to
pub mod Demands
pub mod Idle
pub mod Unfair
