pub mod Civil
pub mod When
