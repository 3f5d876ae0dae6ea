pub mod DatagramRun
pub mod Salvaged
pub mod SalvageRun
pub mod Surveyed
pub mod Laws
