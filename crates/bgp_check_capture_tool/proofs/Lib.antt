pub mod Apart
pub mod Numbers
pub mod Standing
pub mod Few
pub mod Fronts
pub mod Adds
pub mod Marked
pub mod ToldSoFar
pub mod WholeSession
pub mod Blocks
pub mod Statuses
pub mod Verdicts
pub mod Headings
pub mod Printed
pub mod Repeated
mod Own
mod Quiet
