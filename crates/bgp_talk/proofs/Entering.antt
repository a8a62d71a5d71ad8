-- What a core answers to an input, by its records.
use Rattle.std.proofs.Common.{◌≡◌, ◌∙◌, ℕ, List, [], map, ap, sym, subst, Bool, ◌⊎◌, inl, inr, IsTrue, IsFalse, Result, Ok, Err, OnOk}
use Rattle.bgp_prefix.specs.Shown.{ShownRecord}
use Rattle.bgp_speaker.specs.declared.engine.Output.{Output}
use Rattle.bgp_speaker.specs.Answers.{Answers}
use Rattle.bgp_speaker.specs.Choosing.{Chooses, sent_in}
use Rattle.bgp_speaker.specs.Core.{CoreState, InputValue, Failed}
use Rattle.bgp_speaker.specs.Shown.{shown_value}
use Rattle.bgp_talk.specs.Account.{Telling}
use Rattle.bgp_talk.specs.CoreFacts.{is_resting, IsQuiet}
use Rattle.bgp_talk.specs.Talk.{Entered}
use Rattle.bgp_talk.proofs.Resting.{failure_brings_rest, rest_goes_on}

pub chosen_of : {X : Type 0} (a b : CoreState) (input same : InputValue) (second : ℕ) (out : Output X) → input ≡ same → Answers a input second out b
    → Chooses a same second (map shown_value out.records.items) b
chosen_of a b input same second out is x =
    subst (λ (i : InputValue). Chooses a i second (map shown_value out.records.items) b) is
    (subst (λ (r : List ShownRecord). Chooses a input second r b) (sym x.records_are) x.chooses)

pub sends_of : {X : Type 0} (a b : CoreState) (input : InputValue) (second : ℕ) (out : Output X) → Answers a input second out b
    → out.octets.items ≡ sent_in (map shown_value out.records.items)
sends_of a b input second out x = x.octets_are ∙ ap sent_in (sym x.records_are)

module _ {W C : Type 0} {tells : W → W → List Telling → Type 0} {takes : C → C → List ℕ → Type 0} {text : List ShownRecord → List ℕ}
    {a b : CoreState} {w w' : W} {k k' : C} {octets : List ℕ} where
  -- a failure brings rest
  pub rests_by : {input : InputValue} → Entered tells takes text input a w k octets b w' k' → input ≡ Failed → IsTrue (is_resting b)
  rests_by {input = input} x is =
      (failure_brings_rest a b x.second x.records (subst (λ (i : InputValue). Chooses a i x.second x.records b) is x.chosen)).0

  -- rest goes on
  pub quiet_rests : {input : InputValue} → Entered tells takes text input a w k octets b w' k' → IsQuiet input → IsTrue (is_resting a)
      → IsTrue (is_resting b) × (octets ≡ [])
  quiet_rests {input = input} x quiet rests =
      let rested = rest_goes_on a b input x.second x.records quiet rests x.chosen in
      (rested.0, x.sends ∙ rested.1)

-- what is so unless it rests
pub stands_awake : {P : Type 0} {b : Bool} → IsFalse b → IsTrue b ⊎ P → P
stands_awake awake (inl rests) = absurd (cc)
stands_awake awake (inr p) = p

pub awake_then : {P Q : Type 0} → (P → ⊥) → P ⊎ Q → Q
awake_then awake (inl p) = absurd (awake p)
awake_then awake (inr q) = q

pub steady_then : {P Q X E : Type 0} (R : Type 0) (r : Result X E) → P ⊎ Q → (P → OnOk r R) → (Q → OnOk r R) → OnOk r R
steady_then R r (inl p) one other = one p
steady_then R r (inr q) one other = other q

-- what is so whatever is answered
pub done_anyhow : {X E : Type 0} (r : Result X E) (P : Type 0) → P → OnOk r P
done_anyhow (Ok x) P is = is
done_anyhow (Err e) P is = tt

pub not_true : {b : Bool} → IsFalse b → IsTrue b → ⊥
not_true false_it true_it = absurd (cc)
