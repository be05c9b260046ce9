-- What the contracts of `bounds` cite.
pub mod Entries
pub mod Listed
pub mod Tried
