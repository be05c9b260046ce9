-- The laws that belong to no one function; `Places` and `Ends` have those that the entry point uses.
pub mod Lists
pub mod Tightened
pub mod Tries
pub mod Places
pub mod Ends
pub mod One
