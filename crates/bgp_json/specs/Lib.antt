pub mod Place
pub mod Object
pub mod Line
pub mod Others
pub mod Parts
pub mod MessageJson
pub mod RecordJson
pub mod Telling
pub mod Output
pub use Rattle.bgp_lines.specs.Form
pub use Rattle.bgp_lines.specs.MessageLine
pub use Rattle.bgp_lines.specs.Others as LinesOthers
pub use Rattle.bgp_lines.specs.Telling as LinesTelling
pub use Rattle.bgp_lines.specs.declared.form.LineForm
