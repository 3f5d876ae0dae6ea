pub mod Trials
pub mod Plans
pub mod Ends
pub mod Running
pub mod Lines
pub mod Written
pub mod Laws
pub mod Kept
