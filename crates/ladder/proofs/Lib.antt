-- The laws that belong to no one function.
pub mod Asks
pub mod Wishes
pub mod Stages
pub mod Grades
pub mod One
