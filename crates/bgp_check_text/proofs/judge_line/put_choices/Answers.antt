use Rattle.bgp_text.proofs.Pieces.{Joins, and_then}
use Rattle.bgp_check_text.specs.JudgeLine.{choices_text}
use Rattle.bgp_check_text.proofs.judge_line.put_choices.Goals as goal

pub returns : goal.returns
unfolding choices_text
returns g c =
    let law : Joins g.W.Sink = record { joined = g.met.W.Sink.joined } in
    let word = rw c.families_word.ensures at c.put-2.ensures in
    and_then law c.put_hold.ensures (and_then law c.put.ensures (and_then law word (and_then law c.put_flag.ensures
    (and_then law c.put_flag-2.ensures (and_then law c.put_offers.ensures (and_then law c.put_flag-3.ensures (and_then law c.put-3.ensures c.put_decimal.ensures)))))))
