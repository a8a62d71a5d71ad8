-- In reading order.
pub mod Deed
pub mod Numbering
pub mod Runs
pub mod Batch
pub mod Possible
pub mod Ladder
