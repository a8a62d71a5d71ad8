use Rattle.std.proofs.Common.{IsTrue, refl, sym, ◌∙◌, [], ◌∷◌, ◌++◌}
use Rattle.mrt.specs.Reader.{shown_of}
use Rattle.bgp_judge.proofs.PlainStanding.{next_stands, begin_where}
use Rattle.bgp_judge.proofs.plain.PlainTrackerTracker.take.Goals as goal

pub returns-then-not-has_some-clause-alive : goal.returns-then-not-has_some-clause-alive
returns-then-not-has_some-clause-alive g c = λ config records stands.
    let stand = next_stands c.each_owed_want_can_be_met.ensures.met c.args.self.now.config config records (shown_of c.args.shown.now)
    c.args.self.now.members.items c.as_slice.result.now c.in_ok-next.next.items stands.0 c.as_slice.ensures.value c.in_ok-next.ensures.next stands.1 in
    let both = begin_where config (records ++ shown_of c.args.shown.now ∷ []) c.in_ok-next.next.items stand in (
      λ t. absurd cc,
      λ begins.
          let t : IsTrue c.has_some.result = c.has_some.ensures.1 (λ e. both.1 begins (sym c.as_slice-2.ensures.value ∙ e)) in
          let no = c.if-not-has_some.true in absurd cc,
    )

pub returns-clause-alive : goal.returns-clause-alive
returns-clause-alive g c = λ config records stands.
    let stand = next_stands c.each_owed_want_can_be_met.ensures.met c.args.self.now.config config records (shown_of c.args.shown.now)
    c.args.self.now.members.items c.as_slice.result.now c.in_ok-next.next.items stands.0 c.as_slice.ensures.value c.in_ok-next.ensures.next stands.1 in
    let both = begin_where config (records ++ shown_of c.args.shown.now ∷ []) c.in_ok-next.next.items stand in (
      λ t. both.0 (λ e. c.has_some.ensures.0 c.if-not-has_some.false (c.as_slice-2.ensures.value ∙ e)),
      λ begins. refl,
    )

pub returns-clause-next : goal.returns-clause-next
returns-clause-next g c = λ config records stands alive. (
  stands.0,
  next_stands c.each_owed_want_can_be_met.ensures.met c.args.self.now.config config records (shown_of c.args.shown.now)
      c.args.self.now.members.items c.as_slice.result.now c.in_ok-next.next.items stands.0 c.as_slice.ensures.value c.in_ok-next.ensures.next stands.1,
  c.in_ok-next.ensures.apart,
)
