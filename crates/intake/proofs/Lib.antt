-- What the proofs of `intake` share.
pub mod Came
