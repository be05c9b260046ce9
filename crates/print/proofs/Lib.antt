-- Laws of bytes that are put: digits, bytes one after the other, lines; and that two results of one promise are equal.
pub mod Decimals
pub mod Writes
pub mod Lines
pub mod One
