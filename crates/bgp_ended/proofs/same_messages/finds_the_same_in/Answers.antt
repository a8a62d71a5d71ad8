use Rattle.std.proofs.Common.{IsTrue, subst}
use Rattle.bgp_ended.specs.SameMessages.{AreShort}
use Rattle.bgp_ended.proofs.SameMessages.{heard, said}
use Rattle.bgp_ended.proofs.same_messages.finds_the_same_in.Goals as goal

pub returns-clause-heard : goal.returns-clause-heard
returns-clause-heard g c is_so stream is =
    let known = c.args.known.now in
    heard (IsTrue c.are_short.result) c.args.old c.args.new stream known.messages.items known.unshown
    (c.finds_the_same.ensures is_so) (λ few. subst AreShort c.deref.ensures.value (c.are_short.ensures.0 few)) is

pub returns-clause-said : goal.returns-clause-said
returns-clause-said g c is_so stream end is =
    let known = c.args.known.now in
    said (IsTrue c.are_short.result) c.args.old c.args.new stream end known.messages.items known.unshown
    (c.finds_the_same.ensures is_so) (λ few. subst AreShort c.deref.ensures.value (c.are_short.ensures.0 few)) is
