pub mod Driven
pub mod Speaking
pub mod Pairing
