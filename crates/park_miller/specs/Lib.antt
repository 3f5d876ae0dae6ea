pub mod Generator
pub mod States
pub mod Shuffle
pub mod LimitedDraws
