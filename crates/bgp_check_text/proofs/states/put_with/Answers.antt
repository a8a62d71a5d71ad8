use Rattle.std.proofs.Common.{◌∙◌}
use Rattle.bgp_text.proofs.Pieces.{Joins, and_then}
use Rattle.bgp_check_text.specs.States.{with_text}
use Rattle.bgp_check_text.proofs.states.put_with.Goals as goal

pub returns : goal.returns
unfolding with_text
returns g c =
    let law : Joins g.W.Sink = record { joined = g.met.W.Sink.joined } in
    let names = rw (c.as_bytes.ensures.value ∙ c.families_name.ensures) at c.put-2.ensures in
    and_then law c.put.ensures (and_then law names c.put-3.ensures)
