pub mod Disabled
pub mod Members
pub mod Table
pub mod Standing
pub mod Parts
pub mod Steps
pub mod Applied
pub mod Memory
