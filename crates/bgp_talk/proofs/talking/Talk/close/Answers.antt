use Rattle.std.proofs.Common.{rules, ◌≡◌, [], ◌∷◌, ap, sym, Bool, true, false, if◌then◌else◌, IsTrue, IsFalse}
use Rattle.mrt.proofs.Exits.{done_then}
use Rattle.bgp_speaker.specs.Core.{Stop}
use Rattle.bgp_talk.specs.CoreFacts.{is_idle, is_resting}
use Rattle.bgp_talk.specs.Talk.{capture_of, in_hand}
use Rattle.bgp_talk.specs.declared.wire.Connection.{Connection}
use Rattle.bgp_talk.proofs.Accounts.{capture_joined}
use Rattle.bgp_talk.proofs.Entering.{stands_awake}
use Rattle.bgp_talk.proofs.Joining.{cut_from, cut_then, went_from, went_none, went_to}
use Rattle.bgp_talk.proofs.Resting.{rest_goes_on}
use Rattle.bgp_talk.proofs.talking.Talk.close.Goals as goal

pub returns-then-is_idle-clause-ok : goal.returns-then-is_idle-clause-ok
returns-then-is_idle-clause-ok g c =
    let idle : true ≡ is_idle c.args.self.now.core = search rules in
    went_from (ap (λ (b : Bool). in_hand (if b then [] else Stop ∷ []) [] (g.W.Wire.connection c.args.wire.now) 0 c.args.self.now.core) idle)
    (went_none g.W.Wire.tells g.C.Sink.takes (capture_of c.args.self.now.config) g.met.W.Wire.joined g.met.C.Sink.joined (capture_joined c.args.self.now.config) (g.met.C.Sink.nothing c.args.sink.now) (g.met.W.Wire.nothing c.args.wire.now))

pub returns-then-rests-clause-ok : goal.returns-then-rests-clause-ok
returns-then-rests-clause-ok g c =
    let awake : false ≡ is_idle c.args.self.now.core = search rules in
    done_then c.enter_silent.result _ _ (λ h.
    went_from (ap (λ (b : Bool). in_hand (if b then [] else Stop ∷ []) [] (g.W.Wire.connection c.args.wire.now) 0 c.args.self.now.core) awake)
    (h [] (g.W.Wire.connection c.args.wire.now) 0)) c.enter_silent.ensures.ok

pub returns-then-rests-clause-err : goal.returns-then-rests-clause-err
returns-then-rests-clause-err g c =
    let awake : false ≡ is_idle c.args.self.now.core = search rules in
    cut_then c.enter_silent.result _ _ (λ fault cut.
    cut_from (ap (λ (b : Bool). in_hand (if b then [] else Stop ∷ []) [] (g.W.Wire.connection c.args.wire.now) 0 c.args.self.now.core) awake)
    (cut [] (g.W.Wire.connection c.args.wire.now) 0)) c.enter_silent.ensures.err

pub returns-clause-ok : goal.returns-clause-ok
returns-clause-ok g c =
    let awake : false ≡ is_idle c.args.self.now.core = search rules in
    let busy : IsFalse (is_resting c.args.self.now.core) = search rules in
    let stands = stands_awake busy c.requires.ready in
    done_then c.hand_in.result _ _ (λ h.
    went_to (ap (λ (k : Connection). in_hand [] [] k 0 c.hand_in.new.self.core) (sym stands))
    (went_from (ap (λ (b : Bool). in_hand (if b then [] else Stop ∷ []) [] (g.W.Wire.connection c.args.wire.now) 0 c.args.self.now.core) awake)
    (went_from (ap (λ (k : Connection). in_hand (Stop ∷ []) [] k 0 c.args.self.now.core) (sym stands))
    (h [] 0)))) c.hand_in.ensures.ok

pub returns-clause-err : goal.returns-clause-err
returns-clause-err g c =
    let awake : false ≡ is_idle c.args.self.now.core = search rules in
    let busy : IsFalse (is_resting c.args.self.now.core) = search rules in
    let stands = stands_awake busy c.requires.ready in
    cut_then c.hand_in.result _ _ (λ fault cut.
    cut_from (ap (λ (b : Bool). in_hand (if b then [] else Stop ∷ []) [] (g.W.Wire.connection c.args.wire.now) 0 c.args.self.now.core) awake)
    (cut_from (ap (λ (k : Connection). in_hand (Stop ∷ []) [] k 0 c.args.self.now.core) (sym stands))
    (cut [] 0))) c.hand_in.ensures.err

pub enter_silent-requires-clause-silent : goal.enter_silent-requires-clause-silent
enter_silent-requires-clause-silent g c =
    let rested : IsTrue (is_resting c.args.self.now.core) = search rules in
    λ b second records chosen. (rest_goes_on c.args.self.now.core b Stop second records tt rested chosen).1

pub hand_in-requires-clause-stands : goal.hand_in-requires-clause-stands
hand_in-requires-clause-stands g c =
    let busy : IsFalse (is_resting c.args.self.now.core) = search rules in
    stands_awake busy c.requires.ready
