use Rattle.std.proofs.Common.{[], true}
use Rattle.bgp_verdict_lines.proofs.SameTexts.{possible_same}
use Rattle.bgp_verdict_lines.proofs.Puts.{all_lines, in_text}
use Rattle.bgp_verdict_lines.proofs.reasons.put_possible.Goals as goal

pub returns-in-Text : goal.returns-in-Text
returns-in-Text g c = in_text c.args.lines.now _ _ c.in-Text.is c.put_possible.ensures

pub returns-in-Json : goal.returns-in-Json
returns-in-Json g c = all_lines c.args.lines.now _ _ _ _ _ c.in-Json.is c.tell_possible.ensures
    (possible_same c.args.style.now true (λ item. []) c.args.possible.now)
