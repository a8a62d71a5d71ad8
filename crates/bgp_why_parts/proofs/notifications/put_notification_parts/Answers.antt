use Rattle.std.proofs.Common.{◌∷◌, [], codes}
use Rattle.bgp_names.proofs.Pieces.{Joins, and_then}
use Rattle.bgp_why_parts.specs.Notifications.{word_piece, early_piece}
use Rattle.bgp_why_parts.proofs.Separated.{piece_by_piece}
use Rattle.bgp_why_parts.proofs.notifications.put_notification_parts.Goals as goal

pub returns : goal.returns
returns g c =
    let law : Joins g.W.Sink = record { joined = g.met.W.Sink.joined } in
    let parts = c.args.parts.now in
    let second = rw c.put_first-next.ensures.next at c.put_early.ensures in
    rw (piece_by_piece (codes "; ") [] (word_piece c.args.code parts.part) (early_piece parts.early ∷ [])) (and_then law c.put_first-next.ensures.writes second)
