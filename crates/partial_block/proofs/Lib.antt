pub mod NullWords
pub mod Carried
pub mod Kept
pub mod Rising
pub mod Placed
pub mod Gathered
