pub mod Memory
pub mod Lends
pub mod Laid
pub mod Zeros
