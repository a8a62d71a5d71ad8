use Rattle.std.proofs.Common.{◌≡◌, IsTrue, inr, [], ◌∷◌, ◌++◌, map, refl, sym, ap, subst, ◌∙◌}
use Rattle.bgp_machine.specs.Lists.{Has}
use Rattle.bgp_machine.specs.Run.{End}
use Rattle.bgp_judge.specs.Ends.{end_value}
use Rattle.bgp_judge.specs.Plain.{end_of_member}
use Rattle.bgp_judge.proofs.EndLists.{map_behind}
use Rattle.bgp_judge.proofs.ending.add_end.Goals as goal

pub returns : goal.returns
returns g c =
    let e : End = end_of_member c.args.member.now in
    let old = c.args.ends.now.items in
    let last : end_value {X = g.row.A.Denot} (record { fsm = c.fsm.result; rib = c.in_ok-copy.field-0 }) ≡ e = λ i. record { fsm = c.fsm.ensures i; routes = c.in_ok-copy.ensures.copy i } in
    inr (
      e,
      (
        c.is_free.ensures.0 c.if-not-is_free.false,
        refl,
        sym c.disabled.ensures.families ∙ c.are_same.ensures.0 c.if-not-are_same.false,
      ),
      (λ h. let k : IsTrue c.has_end.result = c.has_end.ensures.1 (subst (λ v. Has (λ x. x ≡ e) (map end_value v)) (sym c.as_slice.ensures.value) h) in cc),
      ap (λ v. map end_value v) c.in_ok-push.ensures.items ∙ (map_behind end_value old _ ∙ ap (λ (v : End). map end_value old ++ v ∷ []) last),
    )
