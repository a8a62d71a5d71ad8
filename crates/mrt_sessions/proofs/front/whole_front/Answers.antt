use Rattle.std.proofs.Common.{refl}
use Rattle.mrt_sessions.proofs.Fronts.{named_front, no_fields_front, other_front}
use Rattle.mrt_sessions.proofs.front.whole_front.Goals as goal

pub returns-then-is_other_kind : goal.returns-then-is_other_kind
returns-then-is_other_kind c =
    ((c.requires.whole, other_front c.args.whole.now c.requires.whole _ c.requires.header c.requires.fits (c.is_other_kind.ensures.0 c.if-is_other_kind.true)), refl)

pub returns-in-Some : goal.returns-in-Some
returns-in-Some c = (
  named_front c.args.whole.now c.requires.whole _ c.requires.header c.requires.fits (λ other. let k = c.is_other_kind.ensures.1 other in let f = c.if-is_other_kind.false in cc)
      c.split_at.result.1.now c.split_at.ensures.back c.in-Some.ensures.some.there,
  refl,
)

pub returns-in-None : goal.returns-in-None
returns-in-None c =
    no_fields_front c.args.whole.now c.requires.whole _ c.requires.header c.requires.fits (λ other. let k = c.is_other_kind.ensures.1 other in let f = c.if-is_other_kind.false in cc)
    c.split_at.result.1.now c.split_at.ensures.back c.args.rest.now c.in-None.ensures.none
