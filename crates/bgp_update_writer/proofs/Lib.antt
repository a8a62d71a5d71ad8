pub mod WrittenSections
pub mod WrittenPrefixes
pub mod PlainUpdate
pub mod WrittenUpdate
pub mod Measured
mod ShortUpdate
pub mod Filled
