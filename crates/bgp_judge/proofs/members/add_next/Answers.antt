use Rattle.std.proofs.Common.{IsTrue}
use Rattle.mrt.specs.Reader.{shown_of}
use Rattle.bgp_judge.specs.Member.{Member}
use Rattle.bgp_judge.specs.Next.{Continues, Next}
use Rattle.bgp_judge.specs.Plain.{Gains, StartsFrom, member_value}
use Rattle.bgp_judge.proofs.Gaining.{gains_same}
use Rattle.bgp_judge.proofs.NextMembers.{ok_weaker, free_next, bound_next}
use Rattle.bgp_judge.proofs.members.add_next.Goals as goal

pub returns-then-is_free : goal.returns-then-is_free
returns-then-is_free g c =
    let m : Member = member_value c.args.member.now in
    ok_weaker c.add_starts.result _ (Gains c.args.members.now.items c.add_starts.new.members.items (Next c.args.config.now (shown_of c.args.shown.now) m))
    (λ gains. gains_same c.args.members.now.items c.add_starts.new.members.items (StartsFrom c.args.config.now (shown_of c.args.shown.now) m.state)
    (Next c.args.config.now (shown_of c.args.shown.now) m) gains
    (free_next c.args.config.now (shown_of c.args.shown.now) m (c.is_free.ensures.0 c.if-is_free.true)))
    c.add_starts.ensures

pub returns-else-is_free : goal.returns-else-is_free
returns-else-is_free g c =
    let m : Member = member_value c.args.member.now in
    ok_weaker c.add_continued.result _ (Gains c.args.members.now.items c.add_continued.new.members.items (Next c.args.config.now (shown_of c.args.shown.now) m))
    (λ gains. gains_same c.args.members.now.items c.add_continued.new.members.items (Continues c.args.config.now (shown_of c.args.shown.now) m)
    (Next c.args.config.now (shown_of c.args.shown.now) m) gains
    (bound_next c.args.config.now (shown_of c.args.shown.now) m (λ free. let h : IsTrue c.is_free.result = c.is_free.ensures.1 free in cc)))
    c.add_continued.ensures
