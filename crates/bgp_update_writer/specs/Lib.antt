pub mod Update
pub mod Written
pub mod Refusals
pub mod Applied
pub mod Short
pub mod Lengths
