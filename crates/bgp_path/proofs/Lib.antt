pub mod Lead
pub mod Repeats
