use Rattle.std.proofs.Common.{map, refl}
use Rattle.bgp_judge.specs.Ends.{end_value}
use Rattle.bgp_check_text.specs.Reached.{reached_value}
use Rattle.bgp_check_lines.specs.Values.{IsYes, value_text}
use Rattle.bgp_check_lines.proofs.Puts.{in_text, one_line}
use Rattle.bgp_check_lines.proofs.Values.{one_value}
use Rattle.bgp_check_lines.proofs.verdicts.put_yes.Goals as goal

pub returns-in-Text : goal.returns-in-Text
returns-in-Text g c = in_text c.args.lines.now _ _ c.in-Text.is c.put_yes.ensures

pub returns-in-Json : goal.returns-in-Json
unfolding value_text
returns-in-Json g c = one_line c.args.lines.now _ _ _ (IsYes c.args.routes c.args.name.now c.args.peer (reached_value c.args.reached.now) (map end_value c.args.endings.now)) _ c.in-Json.is (one_value (IsYes c.args.routes c.args.name.now c.args.peer (reached_value c.args.reached.now) (map end_value c.args.endings.now)) (rw (c.judged_end.ensures, c.as_slice.ensures.value, c.as_slice-in-Json.ensures.value) at c.put_yes-in-Json.ensures)) refl
