use Rattle.std.proofs.Common.{rules, ◌≡◌, ◌∙◌, ◌+◌, ◌-◌, ℕ, [], ap, arith, refl, inl, inr, ◌⊎◌, IsFalse}
use Rattle.bgp_talk.specs.CoreFacts.{is_resting}
use Rattle.bgp_talk.specs.Talk.{capture_of, in_hand}
use Rattle.bgp_talk.specs.declared.wire.Connection.TheVariants.{Stands}
use Rattle.bgp_talk.proofs.Accounts.{capture_joined}
use Rattle.bgp_talk.proofs.Entering.{awake_then, not_true}
use Rattle.bgp_talk.proofs.Joining.{cut_by, cut_from, err_again, went_by, went_cut, went_from, went_none, went_then}
use Rattle.bgp_talk.proofs.talking.Talk.take_turns.Goals as goal

pub loop-left-init : goal.loop-left-init
loop-left-init g c = record {
  went = went_none g.W.Wire.tells g.C.Sink.takes (capture_of c.args.self.now.config) g.met.W.Wire.joined g.met.C.Sink.joined (capture_joined c.args.self.now.config) (g.met.C.Sink.nothing c.args.sink.now) (g.met.W.Wire.nothing c.args.wire.now);
  within = omega arith;
  config = refl;
  stands = c.requires.stands;
  few = omega arith;
  steady = inr refl;
  calm = refl;
}

pub loop-left-preserved : goal.loop-left-preserved
loop-left-preserved g c =
    let awake : IsFalse (is_resting c.loop-left.self.core) = search rules in
    let same = awake_then (not_true awake) c.loop-left.invariant.steady in
    let one : (c.loop-left.left - 1) + 1 ≡ c.loop-left.left = search rules in
    record {
      went = went_then g.W.Wire.tells g.C.Sink.takes (capture_of c.args.self.now.config) g.met.W.Wire.joined g.met.C.Sink.joined (capture_joined c.args.self.now.config) c.loop-left.invariant.went
          (went_by c.loop-left.invariant.config
          (went_from (ap (λ (n : ℕ). in_hand [] [] Stands n c.loop-left.self.core) one) (c.in_ok-take_turn.ensures.ok (c.loop-left.left - 1))));
      within = search rules;
      config = c.in_ok-take_turn.ensures.config ∙ c.loop-left.invariant.config;
      stands = c.in_ok-take_turn.ensures.stands;
      few = (let f = c.in_ok-take_turn.ensures.wire_failures in omega (arith, f, same));
      steady = steady_more same c.in_ok-take_turn.ensures.steady;
      calm = search rules;
    }
  where
    steady_more : {P : Type 0} {a b d : ℕ} → b ≡ a → P ⊎ (d ≡ b) → P ⊎ (d ≡ a)
    steady_more same (inl p) = inl p
    steady_more same (inr q) = inr (q ∙ same)

pub returns-in_err-take_turn-clause-err : goal.returns-in_err-take_turn-clause-err
returns-in_err-take_turn-clause-err g c =
    let one : (c.loop-left.left - 1) + 1 ≡ c.loop-left.left = search rules in
    let fault = c.in_err-take_turn.field-0.0 in
    err_again c.from_residual.result fault _ c.from_residual.ensures.1
    (went_cut g.W.Wire.tells g.C.Sink.takes (capture_of c.args.self.now.config) g.met.W.Wire.joined g.met.C.Sink.joined (capture_joined c.args.self.now.config) c.loop-left.invariant.went
    (cut_by c.loop-left.invariant.config
    (cut_from (ap (λ (n : ℕ). in_hand [] [] Stands n c.loop-left.self.core) one) (c.in_err-take_turn.ensures.err (c.loop-left.left - 1)))))
