use Rattle.bgp_text.proofs.Pieces.{Joins}
use Rattle.std.proofs.Common.{[], ◌∷◌}
use Rattle.bgp_values.specs.declared.opens.Direction.TheVariants.{Received, Sent}
use Rattle.bgp_check_lines.specs.Values.{rest_value}
use Rattle.bgp_check_lines.proofs.Values.{and_values}
use Rattle.bgp_check_lines.proofs.notes.tell_rests.Goals as goal

pub returns : goal.returns
returns g c =
    let law : Joins g.W.Sink = record { joined = g.met.W.Sink.joined } in
    and_values law (rest_value Received c.args.received ∷ []) (rest_value Sent c.args.sent ∷ []) c.tell_rest.ensures c.tell_rest-2.ensures
