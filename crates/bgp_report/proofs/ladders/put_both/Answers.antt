use Rattle.std.proofs.Common.{◌≡◌, ◌∙◌, ℕ, ap, refl, subst}
use Rattle.bgp_text.proofs.Pieces.{Joins, and_then}
use Rattle.bgp_report.proofs.InLadders.{together}
use Rattle.bgp_report.specs.Ladders.{IsOfEnd, behind_end}
use Rattle.bgp_report.proofs.ladders.put_both.Goals as goal

pub returns-clause-behind : goal.returns-clause-behind
returns-clause-behind g c =
    c.behind_end.ensures.value ∙ ap (λ (n : ℕ). behind_end n c.args.both.now.other) c.behind_end-count.ensures.value

pub returns-clause-ladders : goal.returns-clause-ladders
returns-clause-ladders g c = λ port packets text held noted.
    let law : Joins g.W.Sink = record { joined = g.met.W.Sink.joined } in
    let opener = rw c.opener_is_open-is_open.ensures at (c.put_end.ensures port packets text held noted) in
    let other = rw c.behind_end-count.ensures.value at (rw c.other_side-to.ensures at (rw c.other_is_open-is_open.ensures at (c.put_end-2.ensures port packets text held noted))) in
    (_, (opener.0, other.0, opener.1, other.1, refl), together opener.0 other.0 (and_then law opener.2 other.2))
