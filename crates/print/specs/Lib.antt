-- What a lent area holds after bytes were put into it, and what a line is.
pub mod Written
pub mod Sheets
pub mod Lines
