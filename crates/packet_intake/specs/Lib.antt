pub mod Pieces
pub mod Intake
pub mod Inside
