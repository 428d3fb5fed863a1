-- What the functions of src answer.
pub mod Tables
pub mod Edges
pub mod Names
pub mod Written
pub mod Refused
pub mod Both
pub mod Entries
