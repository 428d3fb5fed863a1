-- From what listing says to what is printed.
pub mod Printing
