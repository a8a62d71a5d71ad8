pub mod Naming
pub mod Errors
pub mod States
pub mod Families
pub mod Capabilities
pub mod Attributes
pub mod Messages
pub use Rattle.bgp_text.specs.Lines
pub use Rattle.bgp_text.specs.Text
pub use Rattle.bgp_text.specs.declared.lines.Lines as DeclaredLines
