-- Laws of lists of acts and of what is printed.
pub mod Listing
pub mod Cut
pub mod Printing
