use Rattle.std.proofs.Common.{◌≡◌, IsTrue, refl, subst, sym, arith}
use Rattle.bgp_judge.specs.Plain.{member_value}
use Rattle.bgp_judge.proofs.Gaining.{has_here, none_all, none_more}
use Rattle.bgp_orders.proofs.node.has_member.Goals as goal

pub returns-then-is_same : goal.returns-then-is_same
returns-then-is_same g c = (
  λ t. has_here (λ v. member_value v ≡ member_value c.args.member.now) c.args.members.now c.loop-x.x-index c.x-item.result c.loop-x-test.true
      (subst (λ v. member_value v ≡ member_value c.args.member.now) c.x-item.is (c.is_same.ensures.0 c.if-is_same.true)),
  λ h. refl,
)

pub loop-x-preserved : goal.loop-x-preserved
loop-x-preserved g c =
    none_more (λ v. member_value v ≡ member_value c.args.member.now) c.args.members.now c.loop-x.x-index c.x-item.result c.loop-x-test.true c.loop-x.invariant
    (λ e. let h : IsTrue c.is_same.result = c.is_same.ensures.1 (subst (λ v. member_value v ≡ member_value c.args.member.now) (sym c.x-item.is) e) in cc)

pub returns : goal.returns
returns g c =
    (λ t. absurd (cc), λ h. absurd (none_all (λ v. member_value v ≡ member_value c.args.member.now) c.args.members.now c.loop-x.x-index (omega arith) c.loop-x.invariant h))
