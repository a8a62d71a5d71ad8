pub mod Fronts
mod Behind
mod FaultTexts
mod OneText
mod PartByPart
pub mod Separated
pub use Rattle.bgp_parts.proofs.ReadableOpen
pub use Rattle.bgp_parts.proofs.OneForAll
