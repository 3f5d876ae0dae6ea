pub mod Through
pub mod Saved
pub mod Surveys
pub mod Laws
pub mod Pieces
pub mod ReadOff
pub mod DecoderSurveys
