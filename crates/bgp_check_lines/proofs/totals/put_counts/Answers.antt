use Rattle.std.proofs.Common.{refl}
use Rattle.bgp_check_lines.specs.Values.{Counts, value_text}
use Rattle.bgp_check_lines.proofs.Puts.{failed_line, in_text, one_line}
use Rattle.bgp_check_lines.proofs.totals.put_counts.Goals as goal

pub returns-in-Text : goal.returns-in-Text
returns-in-Text g c = in_text c.args.lines.now _ _ c.in-Text.is c.put.ensures

pub returns-in-Some : goal.returns-in-Some
unfolding value_text
returns-in-Some g c = one_line c.args.lines.now _ _ _ (Counts c.args.tally.now) _ c.in-Json.is (rw c.in-Some.ensures at c.put_total.ensures) refl

pub returns-in-None : goal.returns-in-None
unfolding value_text
returns-in-None g c = rw c.fail.ensures (failed_line c.args.lines.now g.met.W.Sink.nothing c.in-Json.teller (Counts c.args.tally.now) _ c.in-Json.is refl)
