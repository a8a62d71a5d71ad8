use Rattle.std.proofs.Common.{codes, []}
use Rattle.std.specs.Bool.{then_some}
use Rattle.bgp_names.proofs.Pieces.{Joins, and_then}
use Rattle.bgp_why_parts.proofs.Separated.{five_pieces}
use Rattle.bgp_why_parts.proofs.offers.put_words.Goals as goal

pub returns : goal.returns
returns g c =
    let law : Joins g.W.Sink = record { joined = g.met.W.Sink.joined } in
    let offer = c.args.offer in
    rw
    (five_pieces (codes ",") [] c.put_word-first.result.now c.put_word-second.result.now c.put_word-third.result.now c.put_word-fourth.result.now
    (then_some offer.sends.v4 (codes "send-v4")) (then_some offer.sends.v6 (codes "send-v6")) (then_some offer.receives.v4 (codes "receive-v4")) (then_some offer.receives.v6 (codes "receive-v6")) (then_some offer.next_hops (codes "next-hops"))
    c.put_word-first.ensures.next c.put_word-second.ensures.next c.put_word-third.ensures.next c.put_word-fourth.ensures.next)
    (and_then law c.put_word-first.ensures.writes (and_then law c.put_word-second.ensures.writes (and_then law c.put_word-third.ensures.writes
    (and_then law c.put_word-fourth.ensures.writes c.put_word.ensures.writes))))
