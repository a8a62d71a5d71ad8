use Rattle.std.proofs.Common.{rules}
use Rattle.std.proofs.lemmas.Result.{on_ok_weaker}
use Rattle.bgp_text.proofs.Fresh.{IsFresh}
use Rattle.bgp_text.proofs.Pieces.{Joins, and_nothing}
use Rattle.bgp_verdict_lines.proofs.Puts.{writes_text}
use Rattle.bgp_explain.proofs.Taken.{took_all}
use Rattle.bgp_explain.proofs.kept_lines.write_lines.Goals as goal

pub returns : goal.returns
returns g c =
    let law : Joins g.W.Sink = record { joined = g.met.W.Sink.joined } in
    let fresh : IsFresh c.new-lines.result.lines = record { empty = c.new-lines.ensures.empty; calm = c.new-lines.ensures.fresh } in
    on_ok_weaker c.hand_over-handed_over.result
    (λ calm.
    let (text, is, put) = c.put_lines_with.ensures in
    let wrote = and_nothing law (writes_text c.new-lines.ensures.starts put) c.hand_over-handed_over.ensures.writes in
    (text, is, took_all c.new-lines.result.lines c.hand_over-handed_over.new.self.lines c.args.sink.now _ text fresh c.new-lines.ensures.now (search rules) wrote c.hand_over-handed_over.ensures.none calm))
    c.hand_over-handed_over.ensures.ok
