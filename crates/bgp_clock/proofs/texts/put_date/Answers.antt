use Rattle.std.proofs.Common.{arith}
use Rattle.bgp_text.proofs.Pieces.{Joins, and_then}
use Rattle.bgp_clock.specs.When.{date_text}
use Rattle.bgp_clock.proofs.texts.put_date.Goals as goal

pub overflow_add-passed : goal.overflow_add-passed
overflow_add-passed g c = omega (arith, c.month_of-month.ensures.fewer, c.year_of-year.ensures.fewer)

pub returns : goal.returns
unfolding date_text
returns g c =
    let law : Joins g.W.Sink = record { joined = g.met.W.Sink.joined } in
    let text = and_then law c.put_four.ensures (and_then law c.put.ensures (and_then law c.put_two.ensures (and_then law c.put-2.ensures c.put_two-2.ensures))) in
    rw (c.month_of-month.ensures.month, c.month_of-month.ensures.days, c.year_of-year.ensures.year, c.year_of-year.ensures.days) at text
