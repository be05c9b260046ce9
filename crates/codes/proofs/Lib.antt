-- That the bounds of a plan have names, and that two steps of one promise are equal.
pub mod Names
pub mod One
