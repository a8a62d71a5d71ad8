-- In reading order.
pub mod Values
pub mod FirstOpen
pub mod Offered
pub mod SameMessages
pub mod Notified
pub mod Outline
pub mod Once
pub mod HowText
pub mod Stretch
pub mod EndedLine
pub use Rattle.bgp_why.specs.Endpoint
pub use Rattle.bgp_why.specs.declared.endpoint.Endpoint as DeclaredEndpoint
pub use Rattle.bgp_check.specs.declared.peer_as.PeerAs
