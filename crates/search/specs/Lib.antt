-- How runs lie in the lent cells, and what the functions over them ask and say.
pub mod Cells
pub mod Rep
pub mod Asks
pub mod Loading
pub mod Show
pub mod Writing
pub mod Finish
pub mod Entries
