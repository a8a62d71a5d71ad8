use Rattle.std.proofs.Common.{◌-◌, ℕ, List, arith, subst, sym}
use Rattle.std.proofs.lemmas.Bool.{le-ltb, lt-ltb}
use Rattle.bgp_text.proofs.Pieces.{Joins, and_then}
use Rattle.bgp_text.specs.Lines.{Writes}
use Rattle.bgp_ladder.proofs.Plain.{precise_before, precise_behind}
use Rattle.bgp_ladder.proofs.cells.put_precise.Goals as goal

pub returns-then-to-from : goal.returns-then-to-from
returns-then-to-from g c =
    let law : Joins g.W.Sink = record { joined = g.met.W.Sink.joined } in
    let fits = c.ranges.from.fits in
    rw (lt-ltb _ _ c.if-to-from.true)
    (subst (λ (t : List ℕ). Writes c.args.lines.now c.put_micros.new.lines t) (sym (precise_before (c.args.from - c.args.to) (omega (arith, fits))))
    (and_then law c.put.ensures c.put_micros.ensures))

pub returns-else-to-from : goal.returns-else-to-from
returns-else-to-from g c =
    let law : Joins g.W.Sink = record { joined = g.met.W.Sink.joined } in
    let fits = c.ranges.to.fits in
    rw (le-ltb _ _ c.if-to-from.false)
    (subst (λ (t : List ℕ). Writes c.args.lines.now c.put_micros-else-to-from.new.lines t) (sym (precise_behind (c.args.to - c.args.from) (omega (arith, fits))))
    (and_then law c.put-else-to-from.ensures c.put_micros-else-to-from.ensures))
