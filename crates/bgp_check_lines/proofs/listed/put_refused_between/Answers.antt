use Rattle.std.proofs.Common.{refl}
use Rattle.bgp_json_check.specs.Lines as lists
use Rattle.bgp_check_lines.specs.Values.{Lists, value_text}
use Rattle.bgp_check_lines.proofs.Puts.{in_text, one_line}
use Rattle.bgp_check_lines.proofs.listed.put_refused_between.Goals as goal

pub returns-in-Text : goal.returns-in-Text
returns-in-Text g c = in_text c.args.lines.now _ _ c.in-Text.is c.put_refused_between.ensures

pub returns-in-Json : goal.returns-in-Json
unfolding value_text
returns-in-Json g c = one_line c.args.lines.now _ _ _ (Lists (lists.AllRefused c.args.addresses c.args.refusal)) _ c.in-Json.is (c.put_listed.ensures) refl
