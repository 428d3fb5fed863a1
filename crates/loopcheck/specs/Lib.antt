-- What `loopcheck` prints.
pub mod Printing
