-- What the program's first word asks for.
pub mod Asked
