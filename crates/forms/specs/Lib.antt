-- The printed form, and how it is put.
pub mod Printed
pub mod Put
pub mod Timed
