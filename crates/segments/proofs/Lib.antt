pub mod Tags
pub mod Headers
