use Rattle.std.proofs.Common.{rules, ◌≡◌, ◌∙◌, List, [], ◌∷◌, ap, refl, length}
use Rattle.bgp_prefix.specs.Prefix.{PrefixBits}
use Rattle.bgp_talk.specs.Account.{first_owed}
use Rattle.bgp_talk.specs.Talk.{capture_of, in_hand}
use Rattle.bgp_talk.proofs.Accounts.{capture_joined, empty_list}
use Rattle.bgp_talk.proofs.Joining.{cut_by, err_again, went_by, went_cut, went_none, went_then, went_to}
use Rattle.bgp_talk.proofs.Resting.{idle_keeps_prefix}
use Rattle.bgp_talk.proofs.talking.Talk.introduce.Goals as goal

pub loop-first-init : goal.loop-first-init
loop-first-init g c = record {
  went = λ passive connection left. went_none g.W.Wire.tells g.C.Sink.takes (capture_of c.args.self.now.config) g.met.W.Wire.joined g.met.C.Sink.joined (capture_joined c.args.self.now.config) (g.met.C.Sink.nothing c.args.sink.now) (g.met.W.Wire.nothing c.args.wire.now);
  idle = c.requires.idle;
  config = refl;
  connection = refl;
  steady = refl;
  calm = refl;
}

pub loop-first-preserved : goal.loop-first-preserved
loop-first-preserved g c =
    let is : c.loop-first.rest.now ≡ c.in-Some.first.now ∷ c.in-Some.behind.now = search rules in
    let chosen = c.in_ok-enter_silent.ensures.chosen in
    record {
      went = λ passive connection left. went_then g.W.Wire.tells g.C.Sink.takes (capture_of c.args.self.now.config) g.met.W.Wire.joined g.met.C.Sink.joined (capture_joined c.args.self.now.config)
          (went_to (ap (λ (r : List PrefixBits). in_hand (first_owed r passive) [] connection left c.loop-first.self.core) is) (c.loop-first.invariant.went passive connection left))
          (went_by c.loop-first.invariant.config (c.in_ok-enter_silent.ensures.ok (first_owed c.in-Some.behind.now passive) connection left));
      idle = (idle_keeps_prefix c.loop-first.self.core c.enter_silent.new.self.core c.in-Some.first.now chosen.0 chosen.1 c.loop-first.invariant.idle chosen.2).0;
      config = c.in_ok-enter_silent.ensures.config ∙ c.loop-first.invariant.config;
      connection = search rules;
      steady = search rules;
      calm = search rules;
    }

pub returns-in_err-enter_silent-clause-err : goal.returns-in_err-enter_silent-clause-err
returns-in_err-enter_silent-clause-err g c =
    let is : c.loop-first.rest.now ≡ c.in-Some.first.now ∷ c.in-Some.behind.now = search rules in
    err_again c.from_residual.result c.in_err-enter_silent.field-0.0 _ c.from_residual.ensures.1 (λ passive connection left.
    went_cut g.W.Wire.tells g.C.Sink.takes (capture_of c.args.self.now.config) g.met.W.Wire.joined g.met.C.Sink.joined (capture_joined c.args.self.now.config)
    (went_to (ap (λ (r : List PrefixBits). in_hand (first_owed r passive) [] connection left c.loop-first.self.core) is) (c.loop-first.invariant.went passive connection left))
    (cut_by c.loop-first.invariant.config (c.in_err-enter_silent.ensures.err (first_owed c.in-Some.behind.now passive) connection left)))

pub returns-clause-ok : goal.returns-clause-ok
returns-clause-ok g c =
    let zero : length c.loop-first.rest.now ≡ 0 = search rules in
    let none = empty_list c.loop-first.rest.now zero in
    λ passive connection left.
    went_to (ap (λ (r : List PrefixBits). in_hand (first_owed r passive) [] connection left c.loop-first.self.core) none) (c.loop-first.invariant.went passive connection left)

pub enter_silent-requires-clause-silent : goal.enter_silent-requires-clause-silent
enter_silent-requires-clause-silent g c = λ b second records chosen. (idle_keeps_prefix c.loop-first.self.core b c.in-Some.first.now second records c.loop-first.invariant.idle chosen).1
