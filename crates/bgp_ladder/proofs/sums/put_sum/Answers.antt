use Rattle.mrt.specs.Reader.{shown_of}
use Rattle.bgp_text.proofs.Pieces.{Joins, and_then}
use Rattle.bgp_html.specs.Pieces.{Markup}
use Rattle.bgp_html.specs.declared.tag.Tag.TheVariants as tags
use Rattle.std.proofs.Common.{◌++◌, ◌∷◌}
use Rattle.bgp_ladder.proofs.Ends.{together}
use Rattle.bgp_ladder.specs.Ladder.{count_pieces, number_words}
use Rattle.bgp_ladder.specs.Numbering.{blank_cells, first_number, last_number}
use Rattle.bgp_ladder.proofs.sums.put_sum.Goals as goal

pub returns : goal.returns
returns g c =
    let law : Joins g.W.Sink = record { joined = g.met.W.Sink.joined } in
    let numbering = c.args.ladder.now.numbering in
    let count = count_pieces c.args.count (shown_of c.args.entry.now.record) in
    let numbers = number_words (first_number numbering c.args.number c.args.entry.now) (last_number numbering c.args.number c.args.count c.args.last.now) in
    let said = together count numbers (and_then law c.put_count.ensures (rw c.first_number-from.ensures at (rw c.last_number.ensures at c.put_their_numbers.ensures))) in
    and_then law (rw c.mark_at.ensures at c.put_tag.ensures)
    (together (blank_cells numbering) (Markup tags.Message ∷ (count ++ numbers)) (and_then law c.put_blanks.ensures (and_then law c.put_tag-2.ensures said)))
