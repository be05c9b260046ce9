-- What one line of a text gives.
pub mod Lines
pub mod Effects
