use Rattle.std.proofs.Common.{[], subst}
use Rattle.mrt.specs.Reader.{shown_of}
use Rattle.bgp_judge.specs.Next.{Next}
use Rattle.bgp_judge.specs.Plain.{Gains, member_value}
use Rattle.bgp_judge.proofs.Gaining.{gains_more, gains_all}
use Rattle.bgp_judge.proofs.NextMembers.{all_next}
use Rattle.bgp_judge.proofs.members.next_members.Goals as goal

pub loop-member-preserved : goal.loop-member-preserved
loop-member-preserved g c =
    gains_more [] c.loop-member.next.items c.add_next.new.members.items (λ x m. Next c.args.config.now (shown_of c.args.shown.now) (member_value x) m)
    c.args.members.now c.loop-member.member-index c.member-item.result c.loop-member-test.true c.loop-member.invariant
    (subst (λ v. Gains c.loop-member.next.items c.add_next.new.members.items (Next c.args.config.now (shown_of c.args.shown.now) (member_value v))) c.member-item.is c.in_ok-add_next.ensures)

pub returns-clause-next : goal.returns-clause-next
returns-clause-next g c =
    all_next c.args.config.now (shown_of c.args.shown.now) c.args.members.now c.loop-member.next.items
    (gains_all [] c.loop-member.next.items (λ x. Next c.args.config.now (shown_of c.args.shown.now) (member_value x)) c.args.members.now c.loop-member.member-index
    c.loop-member-test.false c.loop-member.invariant)

pub returns-clause-apart : goal.returns-clause-apart
returns-clause-apart g c = c.loop-member.invariant.apart tt
