-- What `loopfind` prints.
pub mod Printing
