use Rattle.std.proofs.Common.{rules, [], ◌∙◌, ap, sym, true, IsFalse}
use Rattle.mrt.proofs.Exits.{ok_then}
use Rattle.bgp_talk.specs.CoreFacts.{is_resting}
use Rattle.bgp_talk.specs.Talk.{capture_of, in_hand}
use Rattle.bgp_talk.specs.declared.wire.Connection.{Connection}
use Rattle.bgp_talk.specs.declared.wire.Connection.TheVariants.{NotAsked}
use Rattle.bgp_talk.proofs.Accounts.{capture_joined}
use Rattle.bgp_talk.proofs.Entering.{done_anyhow, stands_awake}
use Rattle.bgp_talk.proofs.Joining.{cut_by, cut_then, err_again, went_by, went_cut, went_then, went_to}
use Rattle.bgp_talk.proofs.talking.Talk.converse.Goals as goal

pub returns-in_err-begin-clause-err : goal.returns-in_err-begin-clause-err
returns-in_err-begin-clause-err g c =
    err_again c.from_residual.result c.in_err-begin.field-0.0 _ c.from_residual.ensures.1 (c.in_err-begin.ensures.err NotAsked c.args.turns)

pub returns-in_err-open-clause-err : goal.returns-in_err-open-clause-err
returns-in_err-open-clause-err g c =
    err_again c.from_residual-in_err-open.result c.in_err-open.field-0.0 _ c.from_residual-in_err-open.ensures.1
    (went_cut g.W.Wire.tells g.C.Sink.takes (capture_of c.args.self.now.config) g.met.W.Wire.joined g.met.C.Sink.joined (capture_joined c.args.self.now.config)
    (c.in_ok-begin.ensures.ok NotAsked c.args.turns) (cut_by c.in_ok-begin.ensures.config (c.in_err-open.ensures.err c.args.turns)))

pub returns-then-rests-clause-ok : goal.returns-then-rests-clause-ok
returns-then-rests-clause-ok g c =
    went_then g.W.Wire.tells g.C.Sink.takes (capture_of c.args.self.now.config) g.met.W.Wire.joined g.met.C.Sink.joined (capture_joined c.args.self.now.config)
    (c.in_ok-begin.ensures.ok NotAsked c.args.turns) (went_by c.in_ok-begin.ensures.config (c.in_ok-open.ensures.ok c.args.turns))

pub returns-clause-ok : goal.returns-clause-ok
returns-clause-ok g c =
    let awake : IsFalse (is_resting c.open.new.self.core) = search rules in
    let stands = stands_awake awake c.in_ok-open.ensures.ready in
    let opened = went_then g.W.Wire.tells g.C.Sink.takes (capture_of c.args.self.now.config) g.met.W.Wire.joined g.met.C.Sink.joined (capture_joined c.args.self.now.config)
    (c.in_ok-begin.ensures.ok NotAsked c.args.turns) (went_by c.in_ok-begin.ensures.config (c.in_ok-open.ensures.ok c.args.turns)) in
    ok_then c.take_turns.result _ _ (λ left talked.
    went_to (ap (λ (k : Connection). in_hand [] [] k left c.take_turns.new.self.core) (sym c.take_turns.ensures.stands))
    (went_then g.W.Wire.tells g.C.Sink.takes (capture_of c.args.self.now.config) g.met.W.Wire.joined g.met.C.Sink.joined (capture_joined c.args.self.now.config)
    (went_to (ap (λ (k : Connection). in_hand [] [] k c.args.turns c.open.new.self.core) stands) opened)
    (went_by (c.in_ok-open.ensures.config ∙ c.in_ok-begin.ensures.config) talked))) c.take_turns.ensures.ok

pub returns-clause-err : goal.returns-clause-err
returns-clause-err g c =
    let awake : IsFalse (is_resting c.open.new.self.core) = search rules in
    let stands = stands_awake awake c.in_ok-open.ensures.ready in
    let opened = went_then g.W.Wire.tells g.C.Sink.takes (capture_of c.args.self.now.config) g.met.W.Wire.joined g.met.C.Sink.joined (capture_joined c.args.self.now.config)
    (c.in_ok-begin.ensures.ok NotAsked c.args.turns) (went_by c.in_ok-begin.ensures.config (c.in_ok-open.ensures.ok c.args.turns)) in
    cut_then c.take_turns.result _ _ (λ fault cut.
    went_cut g.W.Wire.tells g.C.Sink.takes (capture_of c.args.self.now.config) g.met.W.Wire.joined g.met.C.Sink.joined (capture_joined c.args.self.now.config)
    (went_to (ap (λ (k : Connection). in_hand [] [] k c.args.turns c.open.new.self.core) stands) opened)
    (cut_by (c.in_ok-open.ensures.config ∙ c.in_ok-begin.ensures.config) cut)) c.take_turns.ensures.err

pub returns-clause-asked : goal.returns-clause-asked
returns-clause-asked g c =
    done_anyhow c.take_turns.result _ (true, c.take_turns.ensures.stands)

pub take_turns-requires-clause-stands : goal.take_turns-requires-clause-stands
take_turns-requires-clause-stands g c =
    let awake : IsFalse (is_resting c.open.new.self.core) = search rules in
    stands_awake awake c.in_ok-open.ensures.ready
