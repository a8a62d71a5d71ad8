-- What a ladder is put of.
use Rattle.std.specs.Prelude.{◌≡◌, ℕ}
use Rattle.streams.specs.declared.connection.Connection.{Connection}
use Rattle.streams.specs.declared.connection.Opening.{Opening}
use Rattle.streams.specs.declared.passed.Side.{Side}
use Rattle.bgp_prefix.specs.declared.session.Session.{Session}
use Rattle.bgp_import.specs.ListText.{other_side}
use Rattle.bgp_check_tool.specs.Made.{IsMade}
use Rattle.bgp_check_tool.specs.Seen.{seen_from}
use Rattle.bgp_check_tool.specs.declared.marks.EndMark.{EndMark}
use Rattle.bgp_report.specs.Ladders.{ladder_of, side_words, summary_words}
use Rattle.bgp_report.specs.declared.ladder.Drawn.{Drawn}

-- the words of the end on this side of a connection, and its records
pub record IsDrawn {Y : Type 0} (within : ℕ) (connection : Connection) (session : Session)
    (opening : Opening) (side : Side) (mark : EndMark) (drawn : Drawn Y) : Type 0 where
  pub summary : drawn.names.summary.items ≡ summary_words session opening side
  pub left : drawn.names.left.items ≡ side_words session opening opening.opened_by
  pub right : drawn.names.right.items ≡ side_words session opening (other_side opening.opened_by)
  pub made : IsMade within (seen_from side connection) drawn.made.framings
      drawn.made.recording.entries.items drawn.made.recording.received drawn.made.recording.sent
  pub is_ladder : drawn.ladder
      ≡ ladder_of connection drawn.made.framings opening side mark drawn.made.recording.entries.items
