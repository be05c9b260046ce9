-- What it is to lead round.
pub mod Round
