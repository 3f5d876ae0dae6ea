pub mod Lanes
pub mod Tiles
