-- What `chartcheck` prints.
pub mod Printing
pub mod Rows
