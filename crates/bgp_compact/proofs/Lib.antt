pub mod SetsOfSets
pub mod OneFall
pub mod PartPaid
pub mod FallsPaid
pub mod AllPaid
pub mod Bases
pub mod Rows
pub mod Alive
pub mod Endings
pub mod Opened
pub mod Ways
pub mod Stepping
pub mod StepLoops
pub mod Notes
pub mod Listing
pub mod Images
pub mod Making
pub mod Announced
pub mod Applied
pub mod Behind
pub mod Refusals
pub mod OneTable
pub mod RunTables
mod FourEnds
mod WholeTracker
