-- What the reader promises.
pub mod Heard
