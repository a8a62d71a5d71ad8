-- What a capture holds beside the records of a session, and the lines on it after a yes.
use Rattle.std.specs.Prelude.{◌++◌, ℕ, List, [], Option, None, Some, codes}
use Rattle.std.specs.Prelude.{slice_index_or}
use Rattle.std.specs.Fmt.{decimal}
use Rattle.mrt.specs.Capture.{Piece, others_of}
use Rattle.mrt.specs.Reader.{places_of}
use Rattle.mrt.specs.Skipped.{skipped_in}
use Rattle.bgp_verdict_lines.specs.JsonVerdictsLines.{ends_text}
use Rattle.bgp_explain.specs.declared.skipped.Skipped.{Skipped}

-- what is skipped of the pieces of a capture
abbrev pub skipped_of : List Piece → Skipped
skipped_of pieces = record {
  counts = skipped_in pieces;
  others = places_of (others_of [] pieces);
}

-- ---- the lines

-- the addresses of the first record of another session stand in it
unfoldable pub sessions_line : Skipped → List ℕ
sessions_line skipped =
    codes "  records of other sessions: " ++ (decimal skipped.counts.other_sessions
    ++ (ends_text (slice_index_or skipped.others 0 None) ++ codes "\n"))

unfoldable pub kinds_line : Skipped → List ℕ
kinds_line skipped =
    codes "  records of other kinds: " ++ (decimal skipped.counts.other_kinds ++ codes "\n")

-- of the records that are made of a recording there are none
abbrev pub skipped_lines : Option Skipped → List ℕ
skipped_lines None = []
skipped_lines (Some skipped) = sessions_line skipped ++ kinds_line skipped
