-- Laws of a plan in memory: one record more, what it gives to those who use it, and that there is only one.
pub mod Padded
pub mod Growth
pub mod Use
pub mod Same
