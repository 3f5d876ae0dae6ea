pub mod Pick
pub mod LeftSide
pub mod Left
pub mod Choices
pub mod Staircase
pub mod Stairs
