-- What is put of lines: the definition is bgp_verdict_lines's.
pub use Rattle.bgp_verdict_lines.specs.Lines.{PutsLines}
