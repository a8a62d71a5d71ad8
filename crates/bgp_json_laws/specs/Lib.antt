pub mod Laws
pub mod Lines
pub mod Texts
pub mod Visible
pub use Rattle.bgp_tool.specs.VerdictText
