-- From what the chart's reader says to what is printed, and the examples.
pub mod Printing
pub mod Rows
