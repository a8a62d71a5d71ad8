use Rattle.std.proofs.Common.{◌+◌, refl}
use Rattle.bgp_check_lines.specs.Values.{IsCutShort, cut_short_line, value_text}
use Rattle.bgp_check_lines.proofs.Puts.{failed_line, in_text, one_line}
use Rattle.bgp_check_lines.proofs.totals.put_cut_short.Goals as goal

pub returns-in-Text : goal.returns-in-Text
returns-in-Text g c = in_text c.args.lines.now _ _ c.in-Text.is c.put_cut_text.ensures

pub returns-in-Some : goal.returns-in-Some
unfolding value_text
returns-in-Some g c =
    one_line c.args.lines.now _ _ _ (IsCutShort (c.args.before + 1)) (cut_short_line (c.args.before + 1)) c.in-Json.is (rw c.in-Some.ensures.1 at c.put_total.ensures) refl

pub returns-in-None : goal.returns-in-None
unfolding value_text
returns-in-None g c =
    rw c.fail.ensures (failed_line c.args.lines.now g.met.W.Sink.nothing c.in-Json.teller (IsCutShort (c.args.before + 1)) (cut_short_line (c.args.before + 1)) c.in-Json.is refl)
