pub mod Numbers
pub mod Kinds
pub mod Ranges
pub mod Keeps
pub mod Deciding
pub mod Order
