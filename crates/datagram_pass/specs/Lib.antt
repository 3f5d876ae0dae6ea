pub mod Ways
pub mod Faults
pub mod Pass
pub mod Written
pub mod Laws
pub mod Progress
