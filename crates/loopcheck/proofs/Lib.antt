-- From what the check says to what is printed.
pub mod Printing
