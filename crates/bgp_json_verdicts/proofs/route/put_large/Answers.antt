use Rattle.std.proofs.Common.{◌∙◌, codes, length, rules, sym}
use Rattle.std.proofs.lemmas.Bool.{eqb-false, eqb-true}
use Rattle.bgp_tool.proofs.Tokens.{array}
use Rattle.bgp_json_values.specs.Objects.{array_of}
use Rattle.bgp_json_values.proofs.Members.{member}
use Rattle.bgp_json_verdicts.proofs.Parts.{no_list, some_list}
use Rattle.bgp_json_verdicts.specs.RouteJson.{large_json}
use Rattle.bgp_json_verdicts.proofs.route.put_large.Goals as goal

pub returns-then-is_empty : goal.returns-then-is_empty
returns-then-is_empty g c =
    let values = c.args.values.now in
    rw (no_list (codes "large") large_json values (eqb-true (length values) 0 (sym c.is_empty.ensures ∙ c.if-is_empty.true))) (search rules)

pub returns : goal.returns
returns g c =
    let values = c.args.values.now in
    rw (some_list (codes "large") large_json values (eqb-false (length values) 0 (sym c.is_empty.ensures ∙ c.if-is_empty.false)))
    (member (codes "large") (array_of large_json values) c.in_ok-key.ensures
    (array large_json values c.in_ok-begin_array.ensures c.in_ok-put_large_values.ensures c.end_array.ensures))
