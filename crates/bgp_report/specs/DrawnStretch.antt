-- What the ladder of a stretch is put of.
use Rattle.std.specs.Prelude.{◌≡◌}
use Rattle.bgp_prefix.specs.Text.{address_text}
use Rattle.bgp_check_tool.specs.Made.{AreOffered}
use Rattle.bgp_check_capture_tool.specs.Marks.{MarkValue}
use Rattle.bgp_report.specs.Stretches.{AreEntries, stretch_ladder, stretch_words}
use Rattle.bgp_report.specs.declared.stretch.DrawnStretch.{DrawnStretch}

-- the words of a stretch, and its records
pub record IsDrawnStretch {Y : Type 0} (mark : MarkValue) (drawn : DrawnStretch Y) : Type 0 where
  pub summary : drawn.names.summary.items ≡ stretch_words mark
  pub left : drawn.names.left.items ≡ address_text mark.addresses.peer
  pub right : drawn.names.right.items ≡ address_text mark.addresses.local
  pub are_entries : AreEntries mark.records mark.numbers drawn.entries.items
  pub are_offered : AreOffered mark.records drawn.ladder.framings
  pub is_ladder : drawn.ladder ≡ stretch_ladder mark drawn.ladder.framings
