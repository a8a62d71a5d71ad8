use Rattle.bgp_text.proofs.Pieces.{Joins}
use Rattle.std.proofs.Common.{[], ◌∷◌}
use Rattle.bgp_values.specs.declared.opens.Direction.TheVariants.{Received, Sent}
use Rattle.bgp_check_lines.specs.Values.{PassesOver, rest_value}
use Rattle.bgp_check_lines.proofs.Values.{and_values}
use Rattle.bgp_check_lines.proofs.notes.tell_unshown.Goals as goal

pub returns : goal.returns
returns g c =
    let law : Joins g.W.Sink = record { joined = g.met.W.Sink.joined } in
    and_values law (PassesOver Received c.args.received.passed_over ∷ PassesOver Sent c.args.sent.passed_over ∷ []) (rest_value Received c.args.received.rest ∷ rest_value Sent c.args.sent.rest ∷ []) c.tell_passed_over.ensures c.tell_rests.ensures
