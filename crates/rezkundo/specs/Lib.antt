-- What the C interface says of itself.
pub mod Version
