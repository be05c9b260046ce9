-- What is true of bytes put into an area, of what is left to print, and of the whole form; and that two results of one promise are equal.
pub mod Puts
pub mod Rests
pub mod Whole
pub mod One
