use Rattle.std.proofs.Common.{◌++◌, List, [], ℕ, codes, nat_lt, subst, sym}
use Rattle.std.proofs.lemmas.Bool.{cond-true, cond-false, lt-ltb, le-ltb}
use Rattle.bgp_text.specs.Lines.{Writes}
use Rattle.bgp_text.proofs.Pieces.{Joins, and_then}
use Rattle.bgp_clock.specs.When.{six_digits}
use Rattle.bgp_clock.proofs.texts.put_micro.Goals as goal

pub returns-then-micro-lt1000000 : goal.returns-then-micro-lt1000000
returns-then-micro-lt1000000 g c =
    let law : Joins g.W.Sink = record { joined = g.met.W.Sink.joined } in
    subst (λ (text : List ℕ). Writes c.args.lines.now c.put_six.new.lines text)
    (sym (cond-true (nat_lt c.args.micro 1000000) (codes "." ++ six_digits c.args.micro) [] (lt-ltb c.args.micro 1000000 c.if-micro-lt1000000.true)))
    (and_then law c.put.ensures c.put_six.ensures)

pub returns-else-micro-lt1000000 : goal.returns-else-micro-lt1000000
returns-else-micro-lt1000000 g c =
    subst (λ (text : List ℕ). Writes c.args.lines.now c.put-else-micro-lt1000000.new.self text)
    (sym (cond-false (nat_lt c.args.micro 1000000) (codes "." ++ six_digits c.args.micro) [] (le-ltb c.args.micro 1000000 c.if-micro-lt1000000.false)))
    c.put-else-micro-lt1000000.ensures
