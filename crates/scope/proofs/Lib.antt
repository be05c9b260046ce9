-- What the numbers of faults say of them.
pub mod Numbers
