use Rattle.std.proofs.Common.{◌∙◌, ap}
use Rattle.bgp_open.specs.declared.families.Families.{Families}
use Rattle.bgp_tool.specs.VerdictText.{families_text, end_text}
use Rattle.bgp_text.proofs.Pieces.{Joins, and_then}
use Rattle.bgp_tool.proofs.verdicts.put_end.Goals as goal

pub returns : goal.returns
unfolding end_text
returns g c =
    let law : Joins g.W.Sink = record { joined = g.met.W.Sink.joined } in
    let state = rw (c.as_bytes.ensures.value ∙ c.state_text.ensures) at c.put-2.ensures in
    let families =
    rw (c.as_bytes-2.ensures.value ∙ c.families_text.ensures ∙ ap (λ (f : Families). families_text f) c.disabled.ensures.families) at c.put-4.ensures
    in
    and_then law c.put.ensures (and_then law state (and_then law c.put-3.ensures (and_then law families (and_then law c.put-5.ensures c.put_routes.ensures))))
