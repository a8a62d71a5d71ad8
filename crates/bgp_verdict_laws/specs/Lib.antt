pub mod Laws
pub mod Numbers
pub mod Marks
pub use Rattle.bgp_verdict_lines.specs.Printed
