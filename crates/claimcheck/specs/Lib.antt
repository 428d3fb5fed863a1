-- What `claimcheck` prints.
pub mod Printing
pub mod Rows
