pub mod Walked
pub mod RightTime
