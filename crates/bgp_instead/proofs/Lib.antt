pub mod Asks
pub mod OfAKind
