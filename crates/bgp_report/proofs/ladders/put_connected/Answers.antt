use Rattle.std.proofs.Common.{◌++◌, List, ap, inl, inr, refl, subst}
use Rattle.bgp_html.specs.Pieces.{Piece}
use Rattle.bgp_ladder.specs.declared.rows.Ladder.{Ladder}
use Rattle.bgp_report.proofs.InLadders.{start_is}
use Rattle.bgp_report.specs.Ladders.{AreItsRows, end_pieces, lacking_pieces}
use Rattle.bgp_report.proofs.ladders.put_connected.Goals as goal

pub returns-in-Ok : goal.returns-in-Ok
returns-in-Ok g c = λ clock.
    let drawn = c.in-Ok.drawn in
    let both = c.args.both.now in
    let is = c.in-Ok.ensures clock in
    let (is_whole, rows, are, put) = rw c.deref.ensures.value at c.put_drawn.ensures in (
      _,
      inl (record {
        entries = drawn.made.recording.entries.items;
        framings = drawn.made.framings;
        received = drawn.made.recording.received;
        sent = drawn.made.recording.sent;
        made = is.made;
        is_whole = is_whole;
        rows = rows;
        are_rows = subst (λ (l : Ladder). AreItsRows l c.args.possible.now drawn.made.recording.entries.items is_whole rows) is.is_ladder are;
        is = ap (λ (ps : List Piece). ps ++ (rows ++ end_pieces is_whole))
            (start_is c.args.is_open c.args.mark.order both.session both.opening c.args.side drawn.ladder.column drawn.ladder.numbering c.order_words.result.now
            drawn.names.summary.items drawn.names.left.items drawn.names.right.items (ap (λ (l : Ladder). l.column) is.is_ladder)
            (ap (λ (l : Ladder). l.numbering) is.is_ladder) c.order_words.ensures is.summary is.left is.right);
      }),
      put,
    )

pub returns-in-Err : goal.returns-in-Err
returns-in-Err g c = λ clock. (lacking_pieces, inr refl, c.put_lacking.ensures)
