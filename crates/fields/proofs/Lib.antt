-- Laws of the fields of a line, and that two results of one promise are equal.
pub mod Walks
pub mod One
