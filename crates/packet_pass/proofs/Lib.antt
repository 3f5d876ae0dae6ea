pub mod Counting
pub mod Ending
pub mod Headed
pub mod LoseTexts
