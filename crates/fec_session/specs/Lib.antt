-- What the clauses of this crate cite of the peeling decoder.
pub use Rattle.peeling.specs.Decoder
pub use Rattle.peeling.specs.Stands
pub use Rattle.peeling.specs.Outcome
pub mod Block
pub mod Determines
pub mod Verdict
pub mod Session
pub mod SessionVerdict
pub mod Residue
pub mod Pairing
pub mod NullPairing
pub mod Forced
pub mod Laws
pub mod Residual
pub mod Kept
pub mod Whole
