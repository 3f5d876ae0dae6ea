pub mod Taken
pub mod Cores
pub mod TakenCores
