pub mod Distinct
pub mod OneName
pub mod PlainNames
pub use Rattle.bgp_text.proofs.Fresh
pub use Rattle.bgp_text.proofs.Pieces
