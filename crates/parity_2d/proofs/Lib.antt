pub mod Classes
pub mod Rows
pub mod Places
pub mod Sources
pub mod Parities
pub mod Shape
pub mod Corners
