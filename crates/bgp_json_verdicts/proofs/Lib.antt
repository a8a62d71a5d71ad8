pub mod Told
mod Counted
mod Parts
pub mod Shallow
pub use Rattle.bgp_tool.proofs.CaptureJudged
