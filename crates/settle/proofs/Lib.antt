-- What joins the parts to the outcome, and that two outcomes of a plan are the same but for the chain.
pub mod Settles
pub mod One
