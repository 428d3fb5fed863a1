-- Laws of the functions' contracts.
pub mod CaseLines
pub mod EdgeTables
pub mod StepRows
pub mod Listing
pub mod Writing
pub mod BothRead
pub mod Building
pub mod Judged
