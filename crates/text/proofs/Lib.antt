-- Laws of texts, read and written.
pub mod Tests
pub mod Lines
pub mod Digits
pub mod ReadingSteps
pub mod ReadingRows
pub mod Reading
pub mod ReadingSigned
pub mod Places
pub mod Decimals
pub mod Writing
pub mod Chains
pub mod Rows
pub mod Unique
pub mod WidthRows
