-- From what the run says to what is printed.
pub mod Printing
