pub mod Cut
pub mod Pieces
pub mod Codes
pub mod Offers
pub mod Opens
pub mod OwnFaults
pub mod Notifications
pub mod Updates
pub mod Parts
pub use Rattle.bgp_parts.specs.NotificationParts
pub use Rattle.bgp_parts.specs.OwnOpenParts
pub use Rattle.bgp_parts.specs.UpdateParts
pub use Rattle.bgp_parts.specs.Withdrawal
pub use Rattle.bgp_parts.specs.declared.own_open.OwnOpenParts as DeclaredOwnOpenParts
pub use Rattle.bgp_parts.specs.declared.update.UpdatePart
pub use Rattle.bgp_parts.specs.Asked
pub use Rattle.bgp_parts.specs.Following
pub use Rattle.bgp_parts.specs.Possible
pub use Rattle.bgp_parts.specs.Sending
pub use Rattle.bgp_parts.specs.FsmErrors
pub use Rattle.bgp_parts.specs.DeclaredPossible
pub use Rattle.bgp_parts.specs.States
pub use Rattle.bgp_parts.specs.Told
pub use Rattle.bgp_names.specs.Families
pub use Rattle.bgp_names.specs.States as NamesStates
