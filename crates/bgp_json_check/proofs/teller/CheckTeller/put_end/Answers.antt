use Rattle.std.proofs.Common.{ℕ, codes, true}
use Rattle.bgp_judge.specs.Ends.{end_value}
use Rattle.bgp_text.proofs.Pieces.{Joins}
use Rattle.bgp_json_check.specs.Objects.{routes_json}
use Rattle.bgp_json_check.proofs.Told.{and_tell}
use Rattle.bgp_json_check.proofs.teller.CheckTeller.put_end.Goals as goal

pub returns : goal.returns
returns g c =
    let law : Joins g.W.Sink = record { joined = g.met.W.Sink.joined } in
    let end = end_value c.args.end.now in
    let put = rw (c.disabled.ensures.families, c.len-count.ensures.count) at c.put_detail.ensures in
    and_tell law (λ (n : ℕ). routes_json c.args.routes (codes "route") n c.args.number end.routes.entries) put c.put_routes.ensures
