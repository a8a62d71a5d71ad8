use Rattle.std.proofs.Common.{subst}
use Rattle.bgp_why_parts.specs.DeclaredPossible.{Possible}
use Rattle.bgp_text.specs.Lines.{Writes}
use Rattle.bgp_why.specs.Items.{all_items, those_possible}
use Rattle.bgp_why.specs.Possible.{other_item_lines}
use Rattle.bgp_why.proofs.other_lines.put_other_orders.Goals as goal

pub returns-in-Known : goal.returns-in-Known
returns-in-Known g c =
    rw c.in-Known.is (subst (λ (p : Possible). Writes c.args.lines.now c.put_other_items.new.lines (other_item_lines c.args.style.now.first (those_possible (all_items p))))
    c.besides.ensures c.put_other_items.ensures)
