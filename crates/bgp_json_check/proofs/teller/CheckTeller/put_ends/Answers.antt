use Rattle.std.proofs.Common.{◌++◌, ◌+◌, ℕ, [], refl}
use Rattle.std.proofs.Math.ListN.{drop_of_length-le}
use Rattle.bgp_judge.specs.Ends.{end_value}
use Rattle.bgp_text.proofs.Pieces.{Joins}
use Rattle.bgp_json_check.specs.Objects.{end_json}
use Rattle.bgp_json_check.proofs.InParts.{no_end, one_end}
use Rattle.bgp_json_check.proofs.Told.{and_tell, nothing_told}
use Rattle.bgp_json_check.proofs.teller.CheckTeller.put_ends.Goals as goal

pub loop-index-init : goal.loop-index-init
loop-index-init g c = ([], nothing_told g.met.W.Sink.nothing c.args.lines.now c.args.self.now, refl)

pub loop-index-preserved : goal.loop-index-preserved
loop-index-preserved g c =
    let law : Joins g.W.Sink = record { joined = g.met.W.Sink.joined } in
    let so_far = c.loop-index.invariant in
    let i = c.loop-index.index in
    let e = c.index-ends-index.result in
    let json = end_json c.args.routes c.args.self.now.judged in (
      so_far.0 ++ json (i + 1) (end_value e),
      and_tell law (λ (n : ℕ). end_json c.args.routes n (i + 1) (end_value e)) so_far.1 c.put_end.ensures,
      one_end end_value json so_far.0 _ c.args.ends.now i e c.loop-index-test.true c.index-ends-index.is so_far.2,
    )

pub returns : goal.returns
returns g c =
    let so_far = c.loop-index.invariant in
    rw (no_end end_value (end_json c.args.routes c.args.self.now.judged) so_far.0 _ c.args.ends.now c.loop-index.index (drop_of_length-le c.args.ends.now c.loop-index-test.false) so_far.2) at so_far.1
