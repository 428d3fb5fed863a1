-- What the desk programs share.
pub mod Filling
pub mod Lines
pub mod Offering
