-- Each list of messages has one last offer, and so one reading of the next message.
use Rattle.std.proofs.Common.{◌≡◌, ◌∙◌, ◌++◌, ◌∷◌, [], All, Bool, ℕ, List, Option, None, Some, refl, sym, ap, subst, inl, inr}
use Rattle.std.proofs.lemmas.List.Elements.{All-cons, All-head, All-nil, All-tail}
use Rattle.bgp_open.specs.Open.{open_of}
use Rattle.bgp_open.specs.OpenFault.{IsWellFormed}
use Rattle.bgp_open.proofs.EachOpen.{each_octets}
use Rattle.bgp_open.proofs.LeastFault.{none_if_well_formed}
use Rattle.bgp_values.specs.Opens.{AreOpens, IsLastOffer, offered_by, reading_by}
use Rattle.bgp_values.specs.declared.opens.Direction.{Direction}
use Rattle.bgp_values.specs.declared.opens.Offered.{Offered}
use Rattle.bgp_values.specs.declared.opens.Opens.{Opens}
use Rattle.bgp_values.specs.declared.opens.Reading.{Reading}
use Rattle.bgp_lines.specs.Form.{Before, IsReadingAt}

-- one that is well-formed isn't among those that aren't
not_among : (before : List (List ℕ)) (x : List ℕ) (after : List (List ℕ)) → All (λ (m : List ℕ). ¬ IsWellFormed m) (before ++ x ∷ after) → ¬ IsWellFormed x
not_among [] x after others = All-head (λ (m : List ℕ). ¬ IsWellFormed m) x after others
not_among (b ∷ before) x after others = not_among before x after (All-tail (λ (m : List ℕ). ¬ IsWellFormed m) b (before ++ x ∷ after) others)

same_last : (before other after others : List (List ℕ)) (x y : List ℕ) → before ++ x ∷ after ≡ other ++ y ∷ others → IsWellFormed x → IsWellFormed y
    → All (λ (m : List ℕ). ¬ IsWellFormed m) after → All (λ (m : List ℕ). ¬ IsWellFormed m) others → x ≡ y
same_last [] [] after others x y e well sound none neither = cc
same_last [] (o ∷ other) after others x y e well sound none neither =
    let behind : after ≡ other ++ y ∷ others = cc in
    absurd (not_among other y others (subst (λ (ms : List (List ℕ)). All (λ (m : List ℕ). ¬ IsWellFormed m) ms) behind none) sound)
same_last (b ∷ before) [] after others x y e well sound none neither =
    let behind : before ++ x ∷ after ≡ others = cc in
    absurd (not_among before x after (subst (λ (ms : List (List ℕ)). All (λ (m : List ℕ). ¬ IsWellFormed m) ms) (sym behind) neither) well)
same_last (b ∷ before) (o ∷ other) after others x y e well sound none neither =
    let behind : before ++ x ∷ after ≡ other ++ y ∷ others = cc in
    same_last before other after others x y behind well sound none neither

pub one_offer : (messages : List (List ℕ)) (a b : Option Offered) → IsLastOffer messages a → IsLastOffer messages b → a ≡ b
one_offer messages None None h k = refl
one_offer messages None (Some b) h k =
    absurd (not_among k.0 k.2 k.1 (subst (λ (ms : List (List ℕ)). All (λ (m : List ℕ). ¬ IsWellFormed m) ms) k.3 h) k.4)
one_offer messages (Some a) None h k =
    absurd (not_among h.0 h.2 h.1 (subst (λ (ms : List (List ℕ)). All (λ (m : List ℕ). ¬ IsWellFormed m) ms) h.3 k) h.4)
one_offer messages (Some a) (Some b) h k =
    let same : h.2 ≡ k.2 = same_last h.0 k.0 h.1 k.1 h.2 k.2 (sym h.3 ∙ k.3) h.4 k.4 h.5 k.5 in
    ap Some (h.6 ∙ ap (λ (o : List ℕ). offered_by (open_of o)) same ∙ sym k.6)

-- one message more at the front
before_one : (m : List ℕ) (messages : List (List ℕ)) → ((offered : Option Offered) × IsLastOffer messages offered) → (offered : Option Offered) × IsLastOffer (m ∷ messages) offered
before_one m messages (Some offered, last) =
    (Some offered, (m ∷ last.0, last.1, last.2, ap (λ (ms : List (List ℕ)). m ∷ ms) last.3, last.4, last.5, last.6))
before_one m messages (None, none) = elim (each_octets m) [
  | inl well ↦ (Some (offered_by (open_of m)), ([], messages, m, refl, well, none, refl))
  | inr fault ↦ (None, All-cons (λ (o : List ℕ). ¬ IsWellFormed o) m messages (λ well. none_if_well_formed m fault.0 well fault.1) none)
]

pub each_offer : (messages : List (List ℕ)) → (offered : Option Offered) × IsLastOffer messages offered
each_offer [] = (None, All-nil (λ (m : List ℕ). ¬ IsWellFormed m))
each_offer (m ∷ messages) = before_one m messages (each_offer messages)

pub each_opens : (before : Before) → (opens : Opens) × AreOpens before.received before.sent opens
each_opens before =
    let received = each_offer before.received in
    let sent = each_offer before.sent in
    (record { received = received.0; sent = sent.0 }, record { last_received = received.1; last_sent = sent.1 })

pub one_opens : (before : Before) (opens others : Opens) → AreOpens before.received before.sent opens → AreOpens before.received before.sent others → opens ≡ others
one_opens before opens others h k =
    let received = one_offer before.received opens.received others.received h.last_received k.last_received in
    let sent = one_offer before.sent opens.sent others.sent h.last_sent k.last_sent in
    λ i. record { received = received i; sent = sent i }

pub one_reading : (before : Before) (as2 : Bool) (direction : Direction) (reading other : Reading) → IsReadingAt before as2 direction reading → IsReadingAt before as2 direction other → reading ≡ other
one_reading before as2 direction reading other h k =
    h.2 ∙ ap (reading_by as2 direction) (one_opens before h.0 k.0 h.1 k.1) ∙ sym k.2
