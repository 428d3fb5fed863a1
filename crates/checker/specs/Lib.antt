-- What the checker's functions answer.
pub mod Checking
