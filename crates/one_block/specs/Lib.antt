pub mod Block
pub mod Numbers
pub mod Lines
