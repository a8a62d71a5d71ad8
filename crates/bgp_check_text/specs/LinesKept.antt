-- What kept lines say: the definition is bgp_explain's.
pub use Rattle.bgp_explain.specs.KeptLines.{IsOfLines}
