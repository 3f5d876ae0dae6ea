mod Arrivals
mod Building
mod Copied
pub mod Cores
mod ObjectRead
pub mod Passing
pub mod SourceBlocks
mod Chained
mod Taking
pub mod Telling
mod Written
mod Versions
mod LastSymbol
pub mod PaddedObject
pub mod Codewords
mod PacketRuns
mod Refusing
pub mod Standing
