-- What the definitions of distances cite.
pub mod Min
