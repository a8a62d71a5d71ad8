use Rattle.std.proofs.Common.{◌∙◌, ◌++◌, List, ℕ, ap, false}
use Rattle.std.proofs.lemmas.Grind.{flat_map-append}
use Rattle.std.specs.List.{flat_map}
use Rattle.bgp_text.proofs.Pieces.{Joins}
use Rattle.bgp_why.specs.Lacks.{but_text}
use Rattle.bgp_why.specs.Possible.{shown_lines}
use Rattle.bgp_json_verdicts.specs.Lines.{line_text, other_values, possible_values}
use Rattle.bgp_json_verdicts.proofs.Told.{and_tell}
use Rattle.bgp_verdict_lines.proofs.Puts.{all_lines, in_text}
use Rattle.bgp_verdict_lines.proofs.SameTexts.{others_same, possible_same}
use Rattle.bgp_verdict_lines.proofs.reasons.put_possible_but.Goals as goal

pub returns-in-Text : goal.returns-in-Text
returns-in-Text g c = in_text c.args.lines.now _ _ c.in-Text.is c.put_possible_but.ensures

pub returns-in-Json : goal.returns-in-Json
returns-in-Json g c =
    let law : Joins g.W.Sink = record { joined = g.met.W.Sink.joined } in
    let style = c.args.style.now in
    let possible = c.args.possible.now in
    let but = but_text style.own_faults c.args.lacks.now in
    let here = possible_values style false but possible in
    let others = other_values style.first possible style.other_orders in
    all_lines c.args.lines.now _ _ _ _ _ c.in-Json.is (and_tell law c.tell_possible.ensures c.tell_other_orders.ensures)
    (flat_map-append line_text here others
    ∙ ap (λ (t : List ℕ). t ++ flat_map line_text others) (possible_same style false but possible)
    ∙ ap (λ (t : List ℕ). shown_lines style false but possible ++ t) (others_same style.first possible style.other_orders))
