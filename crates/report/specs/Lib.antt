-- What `report` promises.
pub mod Answer
