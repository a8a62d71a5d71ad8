use Rattle.std.proofs.Common.{subst, sym}
use Rattle.bgp_judge.specs.Plain.{Among, member_value}
use Rattle.bgp_judge.proofs.Gaining.{gains_here, gains_there}
use Rattle.bgp_judge.proofs.members.add.Goals as goal

pub returns-then-has : goal.returns-then-has
returns-then-has g c =
    gains_there c.args.members.now.items (member_value c.args.member)
    (subst (λ v. Among v (member_value c.args.member)) c.as_slice.ensures.value (c.has.ensures.0 c.if-has.true))

pub returns : goal.returns
returns g c =
    gains_here c.args.members.now.items c.push.new.self.items c.args.member c.in_ok-push.ensures.items
    (λ there. let found = c.has.ensures.1 (subst (λ v. Among v (member_value c.args.member)) (sym c.as_slice.ensures.value) there) in
    let none = c.if-has.false in cc)
