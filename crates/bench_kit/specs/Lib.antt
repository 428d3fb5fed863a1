-- What the test programs write, and what they look for in a run's buffers.
pub mod Buffers
pub mod Rows
