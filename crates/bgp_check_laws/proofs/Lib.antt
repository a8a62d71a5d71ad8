pub mod Members
pub mod Reading
pub mod Answers
pub mod Notes
pub mod States
pub mod Yes
pub mod Lines
pub mod Numbers
pub mod Printed
pub mod Commands
mod VisibleMembers
mod VisibleLines
mod Deeds
mod Explained
mod Routes
pub mod Octets
