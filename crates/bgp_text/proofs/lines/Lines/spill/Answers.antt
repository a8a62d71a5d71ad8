use Rattle.std.proofs.Common.{List, ℕ, sym, subst}
use Rattle.bgp_text.specs.Outlet.{Passes}
use Rattle.bgp_text.proofs.Pieces.{Joins, and_then}
use Rattle.bgp_text.proofs.lines.Lines.spill.Goals as goal

pub returns : goal.returns
returns g c =
    let law : Joins g.W.Sink = record { joined = g.met.W.Sink.joined } in
    let gave = subst (λ (held : List ℕ). Passes c.pass_on.new.self.outlet c.give.new.self held c.args.piece.now held)
    (sym c.pass_on.ensures.none) c.give.ensures
    in
    and_then law c.pass_on.ensures.writes gave
