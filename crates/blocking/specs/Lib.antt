pub mod Blocks
pub mod CornerSize
pub mod Laws
