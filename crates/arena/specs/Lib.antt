pub mod Blocks
pub mod Chain
pub mod Octets
pub mod Sizes
