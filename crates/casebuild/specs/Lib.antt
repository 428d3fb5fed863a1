-- What `casebuild` prints.
pub mod Printing
