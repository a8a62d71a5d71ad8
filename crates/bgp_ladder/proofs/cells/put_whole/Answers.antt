use Rattle.std.proofs.Common.{◌-◌, ℕ, List, arith, subst, sym}
use Rattle.std.proofs.lemmas.Bool.{le-ltb, lt-ltb}
use Rattle.bgp_text.proofs.Pieces.{Joins, and_then}
use Rattle.bgp_text.specs.Lines.{Writes}
use Rattle.bgp_ladder.proofs.Plain.{whole_before, whole_behind}
use Rattle.bgp_ladder.proofs.cells.put_whole.Goals as goal

pub returns-then-second-first : goal.returns-then-second-first
returns-then-second-first g c =
    let law : Joins g.W.Sink = record { joined = g.met.W.Sink.joined } in
    let fits = c.ranges.first.fits in
    rw (lt-ltb _ _ c.if-second-first.true)
    (subst (λ (t : List ℕ). Writes c.args.lines.now c.put_seconds.new.lines t) (sym (whole_before (c.args.first - c.args.second) (omega (arith, fits))))
    (and_then law c.put.ensures c.put_seconds.ensures))

pub returns-else-second-first : goal.returns-else-second-first
returns-else-second-first g c =
    let law : Joins g.W.Sink = record { joined = g.met.W.Sink.joined } in
    let fits = c.ranges.second.fits in
    rw (le-ltb _ _ c.if-second-first.false)
    (subst (λ (t : List ℕ). Writes c.args.lines.now c.put_seconds-else-second-first.new.lines t) (sym (whole_behind (c.args.second - c.args.first) (omega (arith, fits))))
    (and_then law c.put-else-second-first.ensures c.put_seconds-else-second-first.ensures))
