pub mod Octets
pub mod Texts
pub mod Visible
pub mod Lines
