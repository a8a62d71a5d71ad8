use Rattle.std.proofs.Common.{rules, ◌≡◌, [], ap, Bool, true, false}
use Rattle.mrt.proofs.Exits.{done_then}
use Rattle.bgp_speaker.specs.Core.{Start, Passive}
use Rattle.bgp_talk.specs.Account.{first_owed}
use Rattle.bgp_talk.specs.Talk.{capture_of, in_hand}
use Rattle.bgp_talk.proofs.Accounts.{capture_joined}
use Rattle.bgp_talk.proofs.Joining.{cut_by, cut_then, err_again, went_by, went_cut, went_then, went_to}
use Rattle.bgp_talk.proofs.Resting.{start_is_silent}
use Rattle.bgp_talk.proofs.talking.Talk.begin.Goals as goal

pub returns-in_err-introduce-clause-err : goal.returns-in_err-introduce-clause-err
returns-in_err-introduce-clause-err g c =
    err_again c.from_residual.result c.in_err-introduce.field-0.0 _ c.from_residual.ensures.1 (λ connection left. c.in_err-introduce.ensures.err c.args.passive connection left)

pub returns-then-passive-clause-ok : goal.returns-then-passive-clause-ok
returns-then-passive-clause-ok g c =
    let is : c.args.passive ≡ true = search rules in
    done_then c.enter_silent.result _ _ (λ h. λ connection left.
    went_then g.W.Wire.tells g.C.Sink.takes (capture_of c.args.self.now.config) g.met.W.Wire.joined g.met.C.Sink.joined (capture_joined c.args.self.now.config)
    (went_to (ap (λ (b : Bool). in_hand (first_owed [] b) [] connection left c.introduce.new.self.core) is) (c.in_ok-introduce.ensures.ok c.args.passive connection left))
    (went_by c.in_ok-introduce.ensures.config (h [] connection left))) c.enter_silent.ensures.ok

pub returns-then-passive-clause-err : goal.returns-then-passive-clause-err
returns-then-passive-clause-err g c =
    let is : c.args.passive ≡ true = search rules in
    cut_then c.enter_silent.result _ _ (λ fault cut. λ connection left.
    went_cut g.W.Wire.tells g.C.Sink.takes (capture_of c.args.self.now.config) g.met.W.Wire.joined g.met.C.Sink.joined (capture_joined c.args.self.now.config)
    (went_to (ap (λ (b : Bool). in_hand (first_owed [] b) [] connection left c.introduce.new.self.core) is) (c.in_ok-introduce.ensures.ok c.args.passive connection left))
    (cut_by c.in_ok-introduce.ensures.config (cut [] connection left))) c.enter_silent.ensures.err

pub returns-clause-ok : goal.returns-clause-ok
returns-clause-ok g c =
    let is : c.args.passive ≡ false = search rules in
    done_then c.enter_silent-2.result _ _ (λ h. λ connection left.
    went_then g.W.Wire.tells g.C.Sink.takes (capture_of c.args.self.now.config) g.met.W.Wire.joined g.met.C.Sink.joined (capture_joined c.args.self.now.config)
    (went_to (ap (λ (b : Bool). in_hand (first_owed [] b) [] connection left c.introduce.new.self.core) is) (c.in_ok-introduce.ensures.ok c.args.passive connection left))
    (went_by c.in_ok-introduce.ensures.config (h [] connection left))) c.enter_silent-2.ensures.ok

pub returns-clause-err : goal.returns-clause-err
returns-clause-err g c =
    let is : c.args.passive ≡ false = search rules in
    cut_then c.enter_silent-2.result _ _ (λ fault cut. λ connection left.
    went_cut g.W.Wire.tells g.C.Sink.takes (capture_of c.args.self.now.config) g.met.W.Wire.joined g.met.C.Sink.joined (capture_joined c.args.self.now.config)
    (went_to (ap (λ (b : Bool). in_hand (first_owed [] b) [] connection left c.introduce.new.self.core) is) (c.in_ok-introduce.ensures.ok c.args.passive connection left))
    (cut_by c.in_ok-introduce.ensures.config (cut [] connection left))) c.enter_silent-2.ensures.err

pub enter_silent-requires-clause-silent : goal.enter_silent-requires-clause-silent
enter_silent-requires-clause-silent g c = λ b second records chosen. start_is_silent c.introduce.new.self.core b Passive second records tt c.in_ok-introduce.ensures.idle chosen

pub enter_silent-requires-2-clause-silent : goal.enter_silent-requires-2-clause-silent
enter_silent-requires-2-clause-silent g c = λ b second records chosen. start_is_silent c.introduce.new.self.core b Start second records tt c.in_ok-introduce.ensures.idle chosen
