-- From what building says to what is printed.
pub mod Printing
