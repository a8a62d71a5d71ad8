pub mod DestinationOrder
pub mod Keys
pub mod Keyed
pub mod Routes
pub mod SameRoutes
pub mod Rooms
pub mod Updates
pub use Rattle.bgp_update.specs.Allowed
pub use Rattle.bgp_update.specs.Changes
pub use Rattle.bgp_update.specs.Clean
pub use Rattle.bgp_update.specs.Disabled
pub use Rattle.bgp_update.specs.Laws
pub use Rattle.bgp_update.specs.Outcome
pub use Rattle.bgp_update.specs.Subcodes
pub use Rattle.bgp_update.specs.declared.destination.Destination
pub use Rattle.bgp_update.specs.declared.outcomes.Changes as DeclaredChanges
pub use Rattle.bgp_update.specs.declared.outcomes.Outcomes
pub use Rattle.bgp_update.specs.declared.subcodes.Subcodes as DeclaredSubcodes
pub use Rattle.bgp_update.specs.Found
pub use Rattle.bgp_update.specs.ResetFaults
pub use Rattle.bgp_update.specs.Sections
pub use Rattle.bgp_update.specs.Split
pub use Rattle.bgp_update.specs.WithdrawFaults
