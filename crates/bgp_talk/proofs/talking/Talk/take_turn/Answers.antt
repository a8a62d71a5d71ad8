use Rattle.std.proofs.Common.{◌≡◌, ◌∙◌, ℕ, [], inl, inr, ◌⊎◌}
use Rattle.mrt.proofs.Exits.{done_then}
use Rattle.bgp_talk.specs.Talk.{capture_of}
use Rattle.bgp_talk.proofs.Accounts.{capture_joined}
use Rattle.bgp_talk.proofs.Entering.{steady_then}
use Rattle.bgp_talk.proofs.Joining.{cut_by, cut_then, went_by, went_cut, went_then}
use Rattle.bgp_talk.proofs.talking.Talk.take_turn.Goals as goal

pub returns-clause-ok : goal.returns-clause-ok
returns-clause-ok g c =
    done_then c.hand_in.result _ _ (λ h. λ left.
    went_then g.W.Wire.tells g.C.Sink.takes (capture_of c.args.self.now.config) g.met.W.Wire.joined g.met.C.Sink.joined (capture_joined c.args.self.now.config) (c.in_ok-read_once.ensures.ok left) (went_by c.in_ok-read_once.ensures.config (h [] left))) c.hand_in.ensures.ok

pub returns-clause-err : goal.returns-clause-err
returns-clause-err g c =
    cut_then c.hand_in.result _ _ (λ fault cut. λ left.
    went_cut g.W.Wire.tells g.C.Sink.takes (capture_of c.args.self.now.config) g.met.W.Wire.joined g.met.C.Sink.joined (capture_joined c.args.self.now.config) (c.in_ok-read_once.ensures.ok left) (cut_by c.in_ok-read_once.ensures.config (cut [] left))) c.hand_in.ensures.err

pub returns-clause-steady : goal.returns-clause-steady
returns-clause-steady g c =
    steady_then _ c.hand_in.result c.in_ok-read_once.ensures.steady
    (λ rests. done_then c.hand_in.result _ _ (λ still. inl still) (c.hand_in.ensures.quiet tt rests))
    (λ same. done_then c.hand_in.result _ _ (λ s. then_same same s) c.hand_in.ensures.steady)
  where
    then_same : {P : Type 0} {a b d : ℕ} → b ≡ a → P ⊎ (d ≡ b) → P ⊎ (d ≡ a)
    then_same same (inl p) = inl p
    then_same same (inr q) = inr (q ∙ same)
