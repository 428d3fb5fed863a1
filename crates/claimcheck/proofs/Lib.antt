-- From what the reader of claims says to what is printed, and examples.
pub mod Printing
pub mod Rows
