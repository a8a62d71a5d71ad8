use Rattle.std.proofs.Common.{◌≤◌, List, arith, inl, length, map, subst, sym}
use Rattle.std.proofs.lemmas.List.{length-map, take-map}
use Rattle.std.proofs.lemmas.Result.{IfOk-weaker}
use Rattle.bgp_prefix.specs.Shown.{ShownRecord}
use Rattle.mrt.specs.Reader.{shown_of}
use Rattle.bgp_judge.specs.Ends.{end_value}
use Rattle.bgp_check_text.specs.Reached.{AreBefore}
use Rattle.bgp_check_text.proofs.reached.ends_before_refusal.Goals as goal

pub returns-in-Some : goal.returns-in-Some
returns-in-Some g c =
    let records = map shown_of c.args.records.now in
    let left = c.up_to_refusal-left.result in
    let within : left ≤ length records = let len = length-map c.args.records.now shown_of in let less = c.up_to_refusal-left.ensures.within in omega (arith, len, less) in
    (left, c.up_to_refusal-left.ensures.refused, inl (c.in-Some.ensures c.args.config.now records within c.requires))

pub returns-in-None : goal.returns-in-None
returns-in-None g c =
    let config = c.args.config.now in
    let left = c.up_to_refusal-left.result in
    IfOk-weaker c.ends_before.result _ _
    (λ ends are. (
      left,
      c.up_to_refusal-left.ensures.refused,
      subst (λ (rs : List ShownRecord). AreBefore config rs (map end_value ends.items)) (sym (take-map shown_of left c.args.records.now)) are,
    ))
    c.ends_before.ensures
