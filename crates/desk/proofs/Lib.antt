-- Laws of the desk programs' texts.
pub mod Writing
pub mod Words
pub mod Built
pub mod Buffers
mod Filling
