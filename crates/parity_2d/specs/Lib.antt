pub mod Grid
pub mod Corner
pub mod Filling
