use Rattle.std.proofs.Common.{◌≤◌, ◌<◌, List, ℕ, subst}
use Rattle.bgp_names.proofs.Pieces.{Joins, and_then}
use Rattle.bgp_names.specs.Lines.{Writes}
use Rattle.bgp_why_parts.proofs.Fronts.{cut_long, cut_short}
use Rattle.bgp_why_parts.proofs.cut.put_cut.Goals as goal

pub returns-then-front-gt-MOST : goal.returns-then-front-gt-MOST
returns-then-front-gt-MOST g c = λ text front.
    let law : Joins g.W.Sink = record { joined = g.met.W.Sink.joined } in
    let first = rw c.split_at.ensures.front at c.put.ensures in
    subst (λ (t : List ℕ). Writes c.args.lines.now c.put-then-front-gt-MOST.new.self t)
    (cut_long text c.shown_count.result c.args.front.now front c.if-front-gt-MOST.true c.shown_count.ensures.count c.shown_count.ensures.most)
    (and_then law first c.put-then-front-gt-MOST.ensures)

pub returns-else-front-gt-MOST : goal.returns-else-front-gt-MOST
returns-else-front-gt-MOST g c = λ text front.
    subst (λ (t : List ℕ). Writes c.args.lines.now c.put-else-front-gt-MOST.new.self t)
    (cut_short text c.args.front.now front c.if-front-gt-MOST.false) c.put-else-front-gt-MOST.ensures
