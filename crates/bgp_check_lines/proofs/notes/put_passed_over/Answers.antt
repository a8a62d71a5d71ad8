use Rattle.std.proofs.Common.{[], ◌∷◌}
use Rattle.bgp_values.specs.declared.opens.Direction.TheVariants.{Received, Sent}
use Rattle.bgp_check_lines.specs.Values.{PassesOver}
use Rattle.bgp_check_lines.proofs.Puts.{all_lines, in_text}
use Rattle.bgp_check_lines.proofs.Texts.{passed_texts}
use Rattle.bgp_check_lines.proofs.notes.put_passed_over.Goals as goal

pub returns-in-Text : goal.returns-in-Text
returns-in-Text g c = in_text c.args.lines.now _ _ c.in-Text.is c.put_passed_over.ensures

pub returns-in-Json : goal.returns-in-Json
returns-in-Json g c = all_lines c.args.lines.now _ _ _ (PassesOver Received c.args.received ∷ PassesOver Sent c.args.sent ∷ []) _ c.in-Json.is c.tell_passed_over.ensures (passed_texts c.args.received c.args.sent)
