-- What a text of lines, fields and numbers means, read and written.
pub mod Ascii
pub mod Lines
pub mod Numbers
pub mod Reading
pub mod Writing
pub mod Promise
pub mod WidthRows
