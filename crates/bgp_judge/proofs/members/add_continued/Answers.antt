use Rattle.std.proofs.Common.{◌≡◌, refl}
use Rattle.mrt.specs.Reader.{shown_of}
use Rattle.bgp_machine.specs.Want.{wants_of}
use Rattle.bgp_judge.specs.Member.{Member, link_for}
use Rattle.bgp_judge.specs.Next.{Continues}
use Rattle.bgp_judge.specs.Plain.{Gains, member_value}
use Rattle.bgp_judge.proofs.Gaining.{gains_same}
use Rattle.bgp_judge.proofs.NextMembers.{ok_weaker, continued_is}
use Rattle.bgp_judge.proofs.members.add_continued.Goals as goal

pub returns : goal.returns
returns g c =
    let m : Member = member_value c.args.member.now in
    let x : Member = member_value (record { state = c.in_ok-copy_of.field-0; link = c.link_for.result; unshown = c.in-Some.left }) in
    let is : x ≡ record { state = m.state; link = link_for (wants_of c.in-Some.left.wants) m.link; wants = wants_of c.in-Some.left.wants; change = c.in-Some.left.change } =
    λ i. record { state = c.in_ok-copy_of.ensures i; link = c.link_for.ensures i; wants = wants_of c.in-Some.left.wants; change = c.in-Some.left.change } in
    ok_weaker c.add.result (Gains c.args.members.now.items c.add.new.members.items (λ v. v ≡ x)) _
    (λ gains. gains_same c.args.members.now.items c.add.new.members.items (λ v. v ≡ x) (Continues c.args.config.now (shown_of c.args.shown.now) m) gains
    (continued_is c.args.config.now (shown_of c.args.shown.now) m c.args.member.now.unshown c.in-Some.left x refl refl c.in-Some.ensures is))
    c.add.ensures
