use Rattle.std.proofs.Common.{sym, subst}
use Rattle.bgp_machine.specs.declared.state.Head.{Head}
use Rattle.bgp_machine.specs.State.{link_at}
use Rattle.bgp_machine.specs.declared.want.Wants.{Wants}
use Rattle.bgp_machine.specs.Want.{wants_of}
use Rattle.bgp_machine.specs.Lists.{Each}
use Rattle.bgp_speaker.specs.Drafts.{CanBeSaid}
use Rattle.bgp_speaker.proofs.Drafting.{on_ok, saying_one, saying_two}
use Rattle.bgp_speaker.proofs.draft.Draft.say.Goals as goal

pub returns-in-One-clause-said : goal.returns-in-One-clause-said
returns-in-One-clause-said g c =
    rw c.in-One.is (on_ok c.say_one.result c.say_one.ensures.said (λ x. saying_one _ _ _ _ _ _ _ x))

pub returns-in_ok-say_one-in-Two-clause-said : goal.returns-in_ok-say_one-in-Two-clause-said
returns-in_ok-say_one-in-Two-clause-said g c =
    rw c.in-Two.is (on_ok c.say_one-in-Two-2.result c.say_one-in-Two-2.ensures.said (λ y.
    saying_two c.args.speaker.now c.args.news.now c.args.t c.args.kind c.in-Two.first c.in-Two.second c.args.self.now c.say_one-in-Two.new.self c.say_one-in-Two-2.new.self
    c.say_one-in-Two.ensures.head c.in_ok-say_one-in-Two.ensures.said y))

pub say_one-requires-in-Two : goal.say_one-requires-in-Two
say_one-requires-in-Two g c = (subst (λ (ws : Wants). Each (CanBeSaid (link_at c.args.self.now.head) c.args.news.now) (wants_of ws)) c.in-Two.is c.requires).0

pub say_one-requires-in-Two-2 : goal.say_one-requires-in-Two-2
say_one-requires-in-Two-2 g c =
    subst (λ (h : Head). CanBeSaid (link_at h) c.args.news.now c.in-Two.second) (sym c.say_one-in-Two.ensures.head)
    (subst (λ (ws : Wants). Each (CanBeSaid (link_at c.args.self.now.head) c.args.news.now) (wants_of ws)) c.in-Two.is c.requires).1.0
