use Rattle.bgp_text.proofs.Pieces.{Joins, and_then}
use Rattle.bgp_check_text.specs.JudgeLine.{offers_option}
use Rattle.bgp_check_text.proofs.SomeOffers.{something_text}
use Rattle.bgp_check_text.proofs.judge_line.put_offers.Goals as goal

pub returns-then-is_nothing : goal.returns-then-is_nothing
unfolding offers_option
returns-then-is_nothing g c = rw (c.is_nothing.ensures.0 c.if-is_nothing.true) c.put.ensures

pub returns-else-is_nothing : goal.returns-else-is_nothing
returns-else-is_nothing g c =
    let law : Joins g.W.Sink = record { joined = g.met.W.Sink.joined } in
    let text = something_text c.args.offers (λ none. let yes = c.is_nothing.ensures.1 none in let not = c.if-is_nothing.false in cc) in
    rw text (and_then law c.put-else-is_nothing.ensures c.put_offer.ensures)
