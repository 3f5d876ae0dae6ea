pub mod Heads
pub mod Ending
pub mod Faultless
