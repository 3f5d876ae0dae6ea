pub mod Laws
pub mod ReducedWords
pub mod LinearFamilies
