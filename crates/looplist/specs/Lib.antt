-- What `looplist` reads and prints.
pub mod Listing
pub mod Printing
