pub mod OwnOpenParts
pub mod NotificationWords
pub mod NotificationParts
pub mod AttributeFaults
pub mod UpdateParts
pub mod Withdrawal
pub mod BothOffers
pub mod Opens
pub mod Confederations
pub use Rattle.bgp_reason.specs.Asked
pub use Rattle.bgp_reason.specs.Following
pub use Rattle.bgp_reason.specs.Possible
pub use Rattle.bgp_reason.specs.Sending
pub use Rattle.bgp_reason.specs.declared.kinds.FsmErrors
pub use Rattle.bgp_reason.specs.declared.kinds.Possible as DeclaredPossible
pub use Rattle.bgp_reason.specs.declared.kinds.States
pub use Rattle.bgp_reason.specs.declared.told.Told
