pub mod Triangle
