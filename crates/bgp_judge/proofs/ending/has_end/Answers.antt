use Rattle.std.proofs.Common.{◌≡◌, IsTrue, refl, sym, subst}
use Rattle.bgp_judge.specs.Ends.{end_value}
use Rattle.bgp_judge.specs.Plain.{end_of_member}
use Rattle.bgp_judge.proofs.Gaining.{has_here, none_more, none_all}
use Rattle.bgp_judge.proofs.EndLists.{map_has, has_map}
use Rattle.bgp_judge.proofs.ending.has_end.Goals as goal

pub returns-then-ends_so : goal.returns-then-ends_so
returns-then-ends_so g c = (
  λ t. map_has end_value (end_of_member c.args.member.now) c.args.ends.now
      (has_here (λ v. end_value v ≡ end_of_member c.args.member.now) c.args.ends.now c.loop-end.end-index c.end-item.result c.loop-end-test.true
      (subst (λ v. end_value v ≡ end_of_member c.args.member.now) c.end-item.is (c.ends_so.ensures.0 c.if-ends_so.true))),
  λ h. refl,
)

pub loop-end-preserved : goal.loop-end-preserved
loop-end-preserved g c =
    none_more (λ v. end_value v ≡ end_of_member c.args.member.now) c.args.ends.now c.loop-end.end-index c.end-item.result c.loop-end-test.true c.loop-end.invariant
    (λ e. let h : IsTrue c.ends_so.result = c.ends_so.ensures.1 (subst (λ v. end_value v ≡ end_of_member c.args.member.now) (sym c.end-item.is) e) in cc)

pub returns : goal.returns
returns g c = (
  λ t. absurd (cc),
  λ h. absurd (none_all (λ v. end_value v ≡ end_of_member c.args.member.now) c.args.ends.now c.loop-end.end-index c.loop-end-test.false c.loop-end.invariant
      (has_map end_value (end_of_member c.args.member.now) c.args.ends.now h)),
)
