pub mod Prefixes
pub mod Zeros
