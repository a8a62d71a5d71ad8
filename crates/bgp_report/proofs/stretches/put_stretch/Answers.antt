use Rattle.std.proofs.Common.{◌++◌, List, ap, inl, inr, refl, subst}
use Rattle.bgp_html.specs.Pieces.{Piece}
use Rattle.bgp_ladder.specs.declared.rows.Ladder.{Ladder}
use Rattle.bgp_check_capture_tool.specs.Marks.{mark_value}
use Rattle.bgp_report.proofs.StretchWords.{stretch_start_is}
use Rattle.bgp_report.specs.Ladders.{AreItsRows, end_pieces}
use Rattle.bgp_report.specs.Stretches.{lost_pieces}
use Rattle.bgp_report.proofs.stretches.put_stretch.Goals as goal

pub returns-in-Ok : goal.returns-in-Ok
returns-in-Ok g c =
    let drawn = c.in-Ok.drawn in
    let is = c.in-Ok.ensures in
    let (is_whole, rows, are, put) = rw c.deref.ensures.value at c.put_drawn.ensures in (
      _,
      inl (record {
        entries = drawn.entries.items;
        framings = drawn.ladder.framings;
        are_entries = is.are_entries;
        are_offered = is.are_offered;
        is_whole = is_whole;
        rows = rows;
        are_rows = subst (λ (l : Ladder). AreItsRows l c.args.possible.now drawn.entries.items is_whole rows) is.is_ladder are;
        is = ap (λ (ps : List Piece). ps ++ (rows ++ end_pieces is_whole))
            (stretch_start_is c.args.is_open (mark_value c.args.mark.now) drawn.ladder drawn.names.summary.items drawn.names.left.items drawn.names.right.items is.is_ladder is.summary is.left is.right);
      }),
      put,
    )

pub returns-in-Err : goal.returns-in-Err
returns-in-Err g c = (lost_pieces, inr refl, c.put_lost.ensures)
