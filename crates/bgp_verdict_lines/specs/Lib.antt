pub mod Teller
pub mod Printed
pub mod Lines
pub use Rattle.bgp_json_verdicts.specs.At
pub use Rattle.bgp_json_verdicts.specs.Lines as JsonVerdictsLines
