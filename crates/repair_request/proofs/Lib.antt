pub mod Counting
pub mod Further
pub mod Late
pub mod Meaning
pub mod Residual
pub mod Turns
pub mod Dimension
pub mod Answered
