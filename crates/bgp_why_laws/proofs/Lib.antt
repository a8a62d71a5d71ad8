mod Cut
pub mod Parts
pub mod Reasons
pub mod Lines
pub mod JsonMembers
pub mod JsonRoutes
pub mod JsonLines
