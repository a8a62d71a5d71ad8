use Rattle.std.proofs.Common.{IsTrue, refl, sym, subst, arith}
use Rattle.bgp_judge.specs.Member.{IsFree}
use Rattle.bgp_judge.specs.Plain.{member_value}
use Rattle.bgp_judge.proofs.Gaining.{has_here, none_more, none_all}
use Rattle.bgp_orders.proofs.Steps.{free_among, among_free}
use Rattle.bgp_orders.proofs.node.has_free.Goals as goal

pub returns-then-is_free : goal.returns-then-is_free
returns-then-is_free g c = (
  λ t. free_among c.args.members.now (has_here (λ v. IsFree (member_value v)) c.args.members.now c.loop-member.member-index c.member-item.result c.loop-member-test.true
      (subst (λ v. IsFree (member_value v)) c.member-item.is (c.is_free.ensures.0 c.if-is_free.true))),
  λ h. refl,
)

pub loop-member-preserved : goal.loop-member-preserved
loop-member-preserved g c =
    none_more (λ v. IsFree (member_value v)) c.args.members.now c.loop-member.member-index c.member-item.result c.loop-member-test.true c.loop-member.invariant
    (λ e. let h : IsTrue c.is_free.result = c.is_free.ensures.1 (subst (λ v. IsFree (member_value v)) (sym c.member-item.is) e) in cc)

pub returns : goal.returns
returns g c =
    (λ t. absurd (cc), λ h. absurd (none_all (λ v. IsFree (member_value v)) c.args.members.now c.loop-member.member-index (omega arith) c.loop-member.invariant (among_free c.args.members.now h.0 h.1 h.2)))
