-- What the last OPEN offers, after one message more.
use Rattle.std.proofs.Common.{◌∙◌, ◌++◌, ◌∷◌, ℕ, List, [], Option, None, Some, refl, ap, append_assoc}
use Rattle.std.proofs.lemmas.List.Elements.{All-append, All-cons, All-nil}
use Rattle.bgp_open.specs.Open.{open_of}
use Rattle.bgp_open.specs.OpenFault.{IsWellFormed}
use Rattle.bgp_values.specs.declared.opens.Offered.{Offered}
use Rattle.bgp_values.specs.Opens.{IsLastOffer, offered_by}

-- a message that is no well-formed OPEN changes nothing
pub no_open : (messages : List (List ℕ)) (old : Option Offered) (octets : List ℕ) → (¬ IsWellFormed octets)
    → IsLastOffer messages old → IsLastOffer (messages ++ octets ∷ []) old
no_open messages None octets other last =
    All-append (λ message. ¬ IsWellFormed message) messages (octets ∷ []) last (All-cons (λ message. ¬ IsWellFormed message) octets [] other (All-nil (λ message. ¬ IsWellFormed message)))
no_open messages (Some offered) octets other last = (
  last.0,
  last.1 ++ octets ∷ [],
  last.2,
  ap (λ (xs : List (List ℕ)). xs ++ octets ∷ []) last.3 ∙ append_assoc last.0 (last.2 ∷ last.1) (octets ∷ []),
  last.4,
  All-append (λ message. ¬ IsWellFormed message) last.1 (octets ∷ []) last.5 (All-cons (λ message. ¬ IsWellFormed message) octets [] other (All-nil (λ message. ¬ IsWellFormed message))),
  last.6,
)

-- a well-formed one is the last
pub new_open : (messages : List (List ℕ)) (octets : List ℕ) → IsWellFormed octets → IsLastOffer (messages ++ octets ∷ []) (Some (offered_by (open_of octets)))
new_open messages octets well = (messages, [], octets, refl, well, All-nil (λ message. ¬ IsWellFormed message), refl)
