pub mod Members
pub mod Objects
pub mod Telling
pub use Rattle.bgp_list.specs.ConnectionJson
pub use Rattle.bgp_list.specs.Connections
pub use Rattle.bgp_list.specs.Forms
pub use Rattle.bgp_list.specs.Lines
pub use Rattle.bgp_list.specs.SessionJson
pub use Rattle.bgp_list.specs.Sessions
pub use Rattle.bgp_list.specs.Capture
pub use Rattle.bgp_json_verdicts.specs.At
pub use Rattle.bgp_json_verdicts.specs.Lines as JsonVerdictsLines
pub use Rattle.bgp_json_verdicts.specs.Objects as JsonVerdictsObjects
pub use Rattle.bgp_json_verdicts.specs.Telling as JsonVerdictsTelling
pub use Rattle.bgp_json_verdicts.specs.declared.telling.Counts
