-- Laws of parts of a list of bytes: pieces, digits, numbers and words; and that two results of one promise are equal.
pub mod Cuts
pub mod Runs
pub mod Numbers
pub mod Sames
pub mod Forms
pub mod One
