use Rattle.std.proofs.Common.{◌∙◌, ap, [], ◌∷◌, sym, inl, true, false}
use Rattle.mrt.proofs.Exits.{done_then}
use Rattle.bgp_talk.specs.Account.{Asked}
use Rattle.bgp_talk.specs.Talk.{capture_of, in_hand}
use Rattle.bgp_talk.specs.declared.wire.Connection.{Connection}
use Rattle.bgp_talk.specs.declared.wire.Connection.TheVariants.{Refused}
use Rattle.bgp_talk.proofs.Accounts.{capture_joined}
use Rattle.bgp_talk.proofs.Joining.{asked_talks, cut_then, went_cut, went_silent, went_then, went_to}
use Rattle.bgp_talk.proofs.Resting.{failure_brings_rest}
use Rattle.bgp_talk.proofs.talking.Talk.open.Goals as goal

pub returns-in-Ok-clause-ok : goal.returns-in-Ok-clause-ok
returns-in-Ok-clause-ok g c =
    done_then c.hand_in.result _ _ (λ h. λ left.
    went_to (ap (λ (k : Connection). in_hand [] [] k left c.hand_in.new.self.core) (sym c.hand_in.ensures.stands))
    (went_then g.W.Wire.tells g.C.Sink.takes (capture_of c.args.self.now.config) g.met.W.Wire.joined g.met.C.Sink.joined (capture_joined c.args.self.now.config)
    (went_silent g.W.Wire.tells g.C.Sink.takes (capture_of c.args.self.now.config) g.met.W.Wire.joined g.met.C.Sink.joined (capture_joined c.args.self.now.config)
    (Asked true ∷ []) (g.met.C.Sink.nothing c.args.sink.now) c.in-Ok.ensures.told (asked_talks true left c.args.self.now.core))
    (h [] left))) c.hand_in.ensures.ok

pub returns-in-Ok-clause-err : goal.returns-in-Ok-clause-err
returns-in-Ok-clause-err g c =
    cut_then c.hand_in.result _ _ (λ fault cut. λ left.
    went_cut g.W.Wire.tells g.C.Sink.takes (capture_of c.args.self.now.config) g.met.W.Wire.joined g.met.C.Sink.joined (capture_joined c.args.self.now.config)
    (went_silent g.W.Wire.tells g.C.Sink.takes (capture_of c.args.self.now.config) g.met.W.Wire.joined g.met.C.Sink.joined (capture_joined c.args.self.now.config)
    (Asked true ∷ []) (g.met.C.Sink.nothing c.args.sink.now) c.in-Ok.ensures.told (asked_talks true left c.args.self.now.core))
    (cut [] left)) c.hand_in.ensures.err

pub returns-in-Ok-clause-asked : goal.returns-in-Ok-clause-asked
returns-in-Ok-clause-asked g c = (true, c.hand_in.ensures.stands)

pub returns-in-Err-clause-ok : goal.returns-in-Err-clause-ok
returns-in-Err-clause-ok g c =
    done_then c.enter_silent.result _ _ (λ h. λ left.
    went_to (ap (λ (k : Connection). in_hand [] [] k left c.enter_silent.new.self.core) (sym (c.enter_silent.ensures.connection ∙ c.in-Err.ensures.connection)))
    (went_then g.W.Wire.tells g.C.Sink.takes (capture_of c.args.self.now.config) g.met.W.Wire.joined g.met.C.Sink.joined (capture_joined c.args.self.now.config)
    (went_silent g.W.Wire.tells g.C.Sink.takes (capture_of c.args.self.now.config) g.met.W.Wire.joined g.met.C.Sink.joined (capture_joined c.args.self.now.config)
    (Asked false ∷ []) (g.met.C.Sink.nothing c.args.sink.now) c.in-Err.ensures.told (asked_talks false left c.args.self.now.core))
    (h [] Refused left))) c.enter_silent.ensures.ok

pub returns-in-Err-clause-err : goal.returns-in-Err-clause-err
returns-in-Err-clause-err g c =
    cut_then c.enter_silent.result _ _ (λ fault cut. λ left.
    went_cut g.W.Wire.tells g.C.Sink.takes (capture_of c.args.self.now.config) g.met.W.Wire.joined g.met.C.Sink.joined (capture_joined c.args.self.now.config)
    (went_silent g.W.Wire.tells g.C.Sink.takes (capture_of c.args.self.now.config) g.met.W.Wire.joined g.met.C.Sink.joined (capture_joined c.args.self.now.config)
    (Asked false ∷ []) (g.met.C.Sink.nothing c.args.sink.now) c.in-Err.ensures.told (asked_talks false left c.args.self.now.core))
    (cut [] Refused left)) c.enter_silent.ensures.err

pub returns-in-Err-clause-asked : goal.returns-in-Err-clause-asked
returns-in-Err-clause-asked g c = (false, c.enter_silent.ensures.connection ∙ c.in-Err.ensures.connection)

pub returns-in-Err-clause-ready : goal.returns-in-Err-clause-ready
returns-in-Err-clause-ready g c =
    done_then c.enter_silent.result _ _ (λ chosen. inl (failure_brings_rest _ _ chosen.0 chosen.1 chosen.2).0) c.enter_silent.ensures.chosen

pub enter_silent-requires-clause-silent : goal.enter_silent-requires-clause-silent
enter_silent-requires-clause-silent g c = λ b second records chosen. (failure_brings_rest c.args.self.now.core b second records chosen).1
