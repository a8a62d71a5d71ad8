use Rattle.std.proofs.Common.{◌≡◌, map, ap, subst, ◌∙◌, arith}
use Rattle.std.proofs.lemmas.List.{take_all}
use Rattle.bgp_judge.specs.Plain.{member_value}
use Rattle.bgp_orders.proofs.Steps.{one_copied}
use Rattle.bgp_orders.proofs.search.copies_of.Goals as goal

pub loop-member-preserved : goal.loop-member-preserved
loop-member-preserved g c =
    one_copied c.args.members.now c.loop-member.copies.items c.push.new.self.items c.in_ok-copy.copy c.member-item.result c.loop-member.member-index c.loop-member-test.true
    c.in_ok-push.ensures.items (subst (λ v. member_value c.in_ok-copy.copy ≡ member_value v) c.member-item.is c.in_ok-copy.ensures) c.loop-member.invariant

pub returns : goal.returns
returns g c =
    c.loop-member.invariant ∙ ap (λ v. map member_value v) (take_all c.loop-member.member-index c.args.members.now (omega arith))
