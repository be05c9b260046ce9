-- The laws of sets as numbers.
pub mod Digits
pub mod Laws
pub mod Listed
pub mod Words
