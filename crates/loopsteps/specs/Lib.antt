-- What `loopsteps` prints.
pub mod Printing
