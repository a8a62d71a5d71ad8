pub mod Ranges
pub mod Laws
pub mod Visible
pub mod Deeds
pub mod Reasons
