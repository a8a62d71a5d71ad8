use Rattle.bgp_text.proofs.Pieces.{Joins}
use Rattle.std.proofs.Common.{[], ◌∷◌}
use Rattle.bgp_values.specs.declared.opens.Direction.TheVariants.{Received, Sent}
use Rattle.bgp_check_lines.specs.Values.{PassesOver}
use Rattle.bgp_check_lines.proofs.Values.{and_values}
use Rattle.bgp_check_lines.proofs.notes.tell_passed_over.Goals as goal

pub returns : goal.returns
returns g c =
    let law : Joins g.W.Sink = record { joined = g.met.W.Sink.joined } in
    and_values law (PassesOver Received c.args.received ∷ []) (PassesOver Sent c.args.sent ∷ []) c.tell_passed.ensures c.tell_passed-2.ensures
