mod Chained
pub mod Refused
