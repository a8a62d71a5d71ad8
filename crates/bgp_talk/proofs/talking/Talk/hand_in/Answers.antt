use Rattle.std.proofs.Common.{rules, ◌≡◌, ℕ, List, subst, true, false, inl}
use Rattle.mrt.proofs.Exits.{done_then}
use Rattle.bgp_talk.specs.Talk.{Sends, capture_of}
use Rattle.bgp_talk.specs.declared.wire.Connection.TheVariants.{Stands}
use Rattle.bgp_talk.proofs.Accounts.{capture_joined}
use Rattle.bgp_talk.proofs.Entering.{quiet_rests, rests_by}
use Rattle.bgp_talk.proofs.Joining.{cut_by, cut_then, err_again, went_by, went_cut, went_entered, went_silent, went_then}
use Rattle.bgp_talk.proofs.Resting.{failure_brings_rest}
use Rattle.bgp_talk.proofs.talking.Talk.hand_in.Goals as goal

pub returns-in_err-octets-clause-err : goal.returns-in_err-octets-clause-err
returns-in_err-octets-clause-err g c =
    err_again c.from_residual.result c.in_err-octets.field-0.0 _ c.from_residual.ensures.1 (λ owed left. c.in_err-octets.ensures.err owed Stands left)

pub returns-then-send-clause-ok : goal.returns-then-send-clause-ok
returns-then-send-clause-ok g c =
    let e = c.in_ok-octets.ensures.ok in
    let whole : c.send.result ≡ true = search rules in
    let told = c.send.ensures.told in
    let sends = subst (λ (o : List ℕ). Sends told.0 o true) c.as_slice.ensures.value (subst (Sends told.0 c.as_slice.result.now) whole told.2) in
    λ owed left.
    went_then g.W.Wire.tells g.C.Sink.takes (capture_of c.args.self.now.config) g.met.W.Wire.joined g.met.C.Sink.joined (capture_joined c.args.self.now.config)
    (went_entered g.W.Wire.tells g.C.Sink.takes (capture_of c.args.self.now.config) g.met.W.Wire.joined g.met.C.Sink.joined (capture_joined c.args.self.now.config) e owed Stands left)
    (went_silent g.W.Wire.tells g.C.Sink.takes (capture_of c.args.self.now.config) g.met.W.Wire.joined g.met.C.Sink.joined (capture_joined c.args.self.now.config)
    told.0 (g.met.C.Sink.nothing c.enter.new.sink) told.1 (sends owed left c.enter.new.self.core))

pub returns-then-send-clause-quiet : goal.returns-then-send-clause-quiet
returns-then-send-clause-quiet g c = λ quiet rests. (quiet_rests c.in_ok-octets.ensures.ok quiet rests).0

pub returns-then-send-clause-fails : goal.returns-then-send-clause-fails
returns-then-send-clause-fails g c = λ is. rests_by c.in_ok-octets.ensures.ok is

pub returns-clause-ok : goal.returns-clause-ok
returns-clause-ok g c =
    let e = c.in_ok-octets.ensures.ok in
    let part : c.send.result ≡ false = search rules in
    let told = c.send.ensures.told in
    let sends = subst (λ (o : List ℕ). Sends told.0 o false) c.as_slice.ensures.value (subst (Sends told.0 c.as_slice.result.now) part told.2) in
    done_then c.enter_silent.result _ _ (λ failed. λ owed left.
    went_then g.W.Wire.tells g.C.Sink.takes (capture_of c.args.self.now.config) g.met.W.Wire.joined g.met.C.Sink.joined (capture_joined c.args.self.now.config)
    (went_entered g.W.Wire.tells g.C.Sink.takes (capture_of c.args.self.now.config) g.met.W.Wire.joined g.met.C.Sink.joined (capture_joined c.args.self.now.config) e owed Stands left)
    (went_then g.W.Wire.tells g.C.Sink.takes (capture_of c.args.self.now.config) g.met.W.Wire.joined g.met.C.Sink.joined (capture_joined c.args.self.now.config)
    (went_silent g.W.Wire.tells g.C.Sink.takes (capture_of c.args.self.now.config) g.met.W.Wire.joined g.met.C.Sink.joined (capture_joined c.args.self.now.config)
    told.0 (g.met.C.Sink.nothing c.enter.new.sink) told.1 (sends owed left c.enter.new.self.core))
    (went_by c.in_ok-octets.ensures.config (failed owed Stands left)))) c.enter_silent.ensures.ok

pub returns-clause-err : goal.returns-clause-err
returns-clause-err g c =
    let e = c.in_ok-octets.ensures.ok in
    let part : c.send.result ≡ false = search rules in
    let told = c.send.ensures.told in
    let sends = subst (λ (o : List ℕ). Sends told.0 o false) c.as_slice.ensures.value (subst (Sends told.0 c.as_slice.result.now) part told.2) in
    cut_then c.enter_silent.result _ _ (λ fault cut. λ owed left.
    went_cut g.W.Wire.tells g.C.Sink.takes (capture_of c.args.self.now.config) g.met.W.Wire.joined g.met.C.Sink.joined (capture_joined c.args.self.now.config)
    (went_entered g.W.Wire.tells g.C.Sink.takes (capture_of c.args.self.now.config) g.met.W.Wire.joined g.met.C.Sink.joined (capture_joined c.args.self.now.config) e owed Stands left)
    (went_cut g.W.Wire.tells g.C.Sink.takes (capture_of c.args.self.now.config) g.met.W.Wire.joined g.met.C.Sink.joined (capture_joined c.args.self.now.config)
    (went_silent g.W.Wire.tells g.C.Sink.takes (capture_of c.args.self.now.config) g.met.W.Wire.joined g.met.C.Sink.joined (capture_joined c.args.self.now.config)
    told.0 (g.met.C.Sink.nothing c.enter.new.sink) told.1 (sends owed left c.enter.new.self.core))
    (cut_by c.in_ok-octets.ensures.config (cut owed Stands left)))) c.enter_silent.ensures.err

pub returns-clause-steady : goal.returns-clause-steady
returns-clause-steady g c =
    done_then c.enter_silent.result _ _ (λ chosen. inl (failure_brings_rest _ _ chosen.0 chosen.1 chosen.2).0) c.enter_silent.ensures.chosen

pub returns-clause-fails : goal.returns-clause-fails
returns-clause-fails g c = λ is.
    done_then c.enter_silent.result _ _ (λ chosen. (failure_brings_rest _ _ chosen.0 chosen.1 chosen.2).0) c.enter_silent.ensures.chosen

pub returns-clause-quiet : goal.returns-clause-quiet
returns-clause-quiet g c = λ quiet rests.
    done_then c.enter_silent.result _ _ (λ chosen. (failure_brings_rest _ _ chosen.0 chosen.1 chosen.2).0) c.enter_silent.ensures.chosen

pub enter_silent-requires-clause-silent : goal.enter_silent-requires-clause-silent
enter_silent-requires-clause-silent g c = λ b second records chosen. (failure_brings_rest c.enter.new.self.core b second records chosen).1
