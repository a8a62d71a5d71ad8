mod Waiting
mod OnlyOne
mod ItemLines
mod Refused
mod Announced
mod WholeMessage
mod Applied
mod Named
pub mod ToldLines
mod Besides
pub use Rattle.bgp_why_parts.proofs.Fronts
