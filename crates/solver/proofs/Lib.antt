-- What joins the parts to the promise, and what follows from it.
pub mod Heard
pub mod Promised
