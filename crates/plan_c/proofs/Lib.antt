-- What is true of every reply of `plan_c`.
pub mod One
