pub mod Thinned
pub mod Lines
pub mod Pass
pub mod Written
pub mod Ranges
pub mod Progress
pub mod Writing
