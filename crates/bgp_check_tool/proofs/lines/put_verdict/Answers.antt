use Rattle.std.proofs.Common.{◌≡◌, ◌∙◌, List, ℕ, ap}
use Rattle.bgp_text.proofs.Pieces.{Joins}
use Rattle.bgp_check_lines.proofs.Puts.{then_lines}
use Rattle.bgp_check_tool.specs.Text.{deed_by}
use Rattle.bgp_check_tool.specs.Told.{told_value}
use Rattle.bgp_check_tool.proofs.lines.put_verdict.Goals as goal

pub returns-in-Yes : goal.returns-in-Yes
returns-in-Yes g c =
    let law : Joins g.W.Sink = record { joined = g.met.W.Sink.joined } in
    let named = rw c.name_of-name.ensures at c.put_yes.ensures in
    let endings = rw c.as_slice-endings.ensures.value at named in
    rw c.in-Yes.is (then_lines law endings c.put_after_yes.ensures)

pub returns-in-No : goal.returns-in-No
returns-in-No g c =
    let law : Joins g.W.Sink = record { joined = g.met.W.Sink.joined } in
    let told = told_value c.args.told.now in
    let deed : c.deed_by-deed.result.now ≡ deed_by told.deed told.other =
    c.deed_by-deed.ensures ∙ ap (λ (d : List ℕ). deed_by d told.other) c.deed.ensures in
    let named = rw c.name_of-name.ensures at c.put_no.ensures in
    let said = rw deed at named in
    rw c.in-No.is (then_lines law said c.put_after_no.ensures)

pub returns-in-Unfinished : goal.returns-in-Unfinished
returns-in-Unfinished g c =
    let law : Joins g.W.Sink = record { joined = g.met.W.Sink.joined } in
    let named = rw c.name_of-name.ensures at c.put_unfinished.ensures in
    rw c.in-Unfinished.is (then_lines law named c.put_after_unfinished.ensures)
