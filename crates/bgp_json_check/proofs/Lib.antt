mod InParts
pub mod Shallow
pub mod Told
