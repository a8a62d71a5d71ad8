use Rattle.std.proofs.Common.{◌∙◌, ◌≡◌, ◌+◌, ◌-◌, [], ap, arith, inl, inr, refl}
use Rattle.bgp_speaker.specs.Core.{CoreState}
use Rattle.bgp_talk.specs.Account.{first_owed}
use Rattle.bgp_talk.specs.CoreFacts.{is_idle}
use Rattle.bgp_talk.specs.Talk.{in_hand}
use Rattle.bgp_talk.specs.declared.wire.Connection.TheVariants.{NotAsked}
use Rattle.bgp_talk.proofs.Joining.{cut_by, cut_from, err_again, went_by, went_from}
use Rattle.bgp_talk.proofs.speaking.speak.Goals as goal

pub converse-requires-clause-idle : goal.converse-requires-clause-idle
converse-requires-clause-idle g c = ap is_idle c.new-talk.ensures.core

pub returns-in_err-left-clause-err : goal.returns-in_err-left-clause-err
returns-in_err-left-clause-err g c =
    err_again c.from_residual.result c.in_err-left.field-0.0 _ c.from_residual.ensures.1
    (inl (cut_from (ap (λ (s : CoreState). in_hand (first_owed c.args.own.now c.args.passive) [] NotAsked c.args.turns s) c.new-talk.ensures.core)
    (cut_by c.new-talk.ensures.config c.in_err-left.ensures.err)))

pub returns-in_default-clause-err : goal.returns-in_default-clause-err
returns-in_default-clause-err g c =
    let conversed = went_from (ap (λ (s : CoreState). in_hand (first_owed c.args.own.now c.args.passive) [] NotAsked c.args.turns s) c.new-talk.ensures.core)
    (went_by c.new-talk.ensures.config c.in_ok-left.ensures.ok) in
    inr (inr (
      refl,
      record {
        end = in_hand [] [] (g.W.Wire.connection c.converse.new.wire) c.in_ok-left.left c.converse.new.self.core;
        talked = conversed;
        over = record { free = (refl, refl); asked = c.in_ok-left.ensures.asked; ends = c.in_ok-left.ensures.ends };
      },
    ))

pub returns-in_err-close-clause-err : goal.returns-in_err-close-clause-err
returns-in_err-close-clause-err g c =
    let conversed = went_from (ap (λ (s : CoreState). in_hand (first_owed c.args.own.now c.args.passive) [] NotAsked c.args.turns s) c.new-talk.ensures.core)
    (went_by c.new-talk.ensures.config c.in_ok-left.ensures.ok) in
    err_again c.from_residual-in_err-close.result c.in_err-close.field-0.0 _ c.from_residual-in_err-close.ensures.1 (inr (inl record {
      end = in_hand [] [] (g.W.Wire.connection c.converse.new.wire) c.in_ok-left.left c.converse.new.self.core;
      there = c.converse.new.wire;
      so_far = c.converse.new.sink;
      talked = conversed;
      over = record { free = (refl, refl); asked = c.in_ok-left.ensures.asked; ends = c.in_ok-left.ensures.ends };
      cut = cut_by (c.converse.ensures.config ∙ c.new-talk.ensures.config) c.in_err-close.ensures.err;
    }))

pub returns-clause-ok : goal.returns-clause-ok
returns-clause-ok g c =
    let conversed = went_from (ap (λ (s : CoreState). in_hand (first_owed c.args.own.now c.args.passive) [] NotAsked c.args.turns s) c.new-talk.ensures.core)
    (went_by c.new-talk.ensures.config c.in_ok-left.ensures.ok) in
    let most = c.in_ok-left.ensures.most in
    let taken : (c.args.turns - c.in_ok-left.left) + c.in_ok-left.left ≡ c.args.turns = omega (arith, most) in
    record {
      end = in_hand [] [] (g.W.Wire.connection c.converse.new.wire) c.in_ok-left.left c.converse.new.self.core;
      there = c.converse.new.wire;
      so_far = c.converse.new.sink;
      talked = conversed;
      over = record { free = (refl, refl); asked = c.in_ok-left.ensures.asked; ends = c.in_ok-left.ensures.ends };
      closed = in_hand [] [] (g.W.Wire.connection c.converse.new.wire) 0 c.close.new.self.core;
      closes = went_by (c.converse.ensures.config ∙ c.new-talk.ensures.config) c.in_ok-close.ensures.ok;
      free = (refl, refl);
      taken = taken;
      reported = c.in-Ok.ensures;
    }
