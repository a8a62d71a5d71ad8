use Rattle.std.proofs.Common.{refl}
use Rattle.bgp_check_lines.specs.Values.{NoRecord, value_text}
use Rattle.bgp_check_lines.proofs.Puts.{in_text, one_line}
use Rattle.bgp_check_lines.proofs.totals.put_no_record.Goals as goal

pub returns-in-Text : goal.returns-in-Text
returns-in-Text g c = in_text c.args.lines.now _ _ c.in-Text.is c.put_none_text.ensures

pub returns-in-Json : goal.returns-in-Json
unfolding value_text
returns-in-Json g c = one_line c.args.lines.now _ _ _ (NoRecord) _ c.in-Json.is (c.put_total.ensures) refl
