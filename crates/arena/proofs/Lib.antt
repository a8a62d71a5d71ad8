pub mod BlockSizes
pub mod Cuts
pub mod Nodes
pub mod Taken
pub mod Values
pub mod Walks
