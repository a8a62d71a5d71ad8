use Rattle.std.proofs.Common.{refl}
use Rattle.bgp_check_lines.specs.Values.{Repeats, value_text}
use Rattle.bgp_check_lines.proofs.Puts.{failed_line, in_text, one_line}
use Rattle.bgp_check_lines.proofs.notes.put_repeat.Goals as goal

pub returns-in-Text : goal.returns-in-Text
returns-in-Text g c = in_text c.args.lines.now _ _ c.in-Text.is c.put_judge_line.ensures

pub returns-in-Ok : goal.returns-in-Ok
unfolding value_text
returns-in-Ok g c = one_line c.args.lines.now _ _ _ (Repeats c.args.options.now) _ c.in-Json.is (rw (c.as_slice.ensures.value, c.in-Ok.ensures) at c.put_detail.ensures) refl

pub returns-in-Err : goal.returns-in-Err
unfolding value_text
returns-in-Err g c = rw c.fail.ensures (failed_line c.args.lines.now g.met.W.Sink.nothing c.in-Json.teller (Repeats c.args.options.now) _ c.in-Json.is refl)
