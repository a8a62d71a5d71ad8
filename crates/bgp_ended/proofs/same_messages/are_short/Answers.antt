use Rattle.std.proofs.Common.{refl, subst}
use Rattle.std.proofs.lemmas.List.{take_all}
use Rattle.bgp_ended.specs.SameMessages.{AreShort}
use Rattle.bgp_ended.proofs.SameMessages.{one_more, short_at, not_true}
use Rattle.bgp_ended.proofs.same_messages.are_short.Goals as goal

pub loop-message-preserved : goal.loop-message-preserved
loop-message-preserved c =
    one_more c.args.messages.now c.loop-message.message-index _ c.loop-message-test.true c.loop-message.invariant (c.is_short.ensures.0 c.if-not-is_short.false)

pub returns-then-not-is_short : goal.returns-then-not-is_short
returns-then-not-is_short c = (
  λ yes. let k : ⊥ = cc in absurd k,
  λ all. absurd (not_true c.is_short.result
      (c.is_short.ensures.1 (short_at c.args.messages.now c.loop-message.message-index _ c.loop-message-test.true all)) c.if-not-is_short.true),
)

pub returns : goal.returns
returns c = (
  λ yes. subst AreShort (take_all c.loop-message.message-index c.args.messages.now c.loop-message-test.false) c.loop-message.invariant,
  λ all. refl,
)
