pub mod SmallBlocks
