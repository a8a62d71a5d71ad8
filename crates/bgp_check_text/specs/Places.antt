-- Where records stand: the definitions are bgp_explain's.
pub use Rattle.bgp_explain.specs.Places.{entry_place, numbered_places, place_with, shown_places}
pub use Rattle.bgp_explain.specs.declared.fractions.NumberedRecord.{NumberedRecord}
