mod Octets
mod Plain
mod FirstEnd
mod Texts
mod Names
pub mod Seen
pub mod Own
mod Steps
mod Grouped
pub mod Reported
pub mod InNotes
