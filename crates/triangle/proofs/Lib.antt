pub mod Links
pub mod Shape
pub mod Chained
pub mod Rows
