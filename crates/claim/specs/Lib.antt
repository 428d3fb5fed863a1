-- What the functions of the reader say; read in this order.
pub mod LabelSays
pub mod Reads
pub mod HeaderSays
pub mod Cells
pub mod BodySays
pub mod Judging
