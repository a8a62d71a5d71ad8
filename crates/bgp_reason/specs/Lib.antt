pub mod Following
pub mod Sending
pub mod Told
pub mod Hearable
pub mod Possible
pub mod Asked
pub mod Reasons
pub mod Data
