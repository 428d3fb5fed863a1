-- Laws of the judge: blocks of lines, the whole file.
pub mod Exits
pub mod Refusals
pub mod Blocks
pub mod Whole
pub mod Loading
pub mod Tables
pub mod Examples
