pub mod Fields
pub mod Grids
pub mod Faults
pub mod Laws
