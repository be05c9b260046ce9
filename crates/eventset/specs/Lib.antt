-- Sets of events as the binary digits of one number.
pub mod Sets
