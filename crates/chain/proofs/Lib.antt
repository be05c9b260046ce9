-- The laws of the bounds of a list, of the number of events, of marking, of following the notes, and of the chain that they make, which alone is free.
pub mod Lists
pub mod Notes
pub mod Marks
pub mod Trail
pub mod Visit
pub mod Close
pub mod Codes
pub mod Lead
pub mod Limits
pub mod One
