use Rattle.std.proofs.Common.{ℕ, map}
use Rattle.bgp_judge.specs.Ends.{end_value}
use Rattle.bgp_text.proofs.Pieces.{Joins}
use Rattle.bgp_json_check.specs.Objects.{befores_json, end_json, numbered_json}
use Rattle.bgp_json_check.proofs.Told.{and_tell}
use Rattle.bgp_json_check.proofs.teller.CheckTeller.put_yes.Goals as goal

pub returns : goal.returns
returns g c =
    let law : Joins g.W.Sink = record { joined = g.met.W.Sink.joined } in
    let ends = map end_value c.args.ends.now in
    let before = map end_value c.args.before.now in
    and_tell law (λ (n : ℕ). befores_json c.args.routes n before)
    (and_tell law (λ (n : ℕ). numbered_json (end_json c.args.routes n) 1 ends) c.put_verdict.ensures c.put_ends.ensures)
    c.put_befores.ensures
