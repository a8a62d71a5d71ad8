-- What stands after the text of a report: the definitions are bgp_html's.
pub use Rattle.bgp_html.specs.Pieces.{Piece}
