-- What is true of every answer.
pub mod Outcomes
pub mod One
pub mod CaseTwo
