pub mod OwnOpen
pub mod PossibleNotifications
pub mod Walking
pub mod FineUpdates
pub mod QuietAttributes
pub mod CleanUpdates
pub mod Withdrawals
pub mod ReadableOpen
pub mod OneOwnOpen
mod ConfederationPaths
pub use Rattle.bgp_reason.proofs.OneForAll
