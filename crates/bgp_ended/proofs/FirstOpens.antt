-- The first OPEN of messages, from one message on.
use Rattle.std.proofs.Common.{◌≡◌, ◌+◌, ◌<◌, ◌≤◌, ℕ, List, ◌∷◌, inl, inr, refl, sym, subst, add-one, drop, length, get_or, Option, None, Some}
use Rattle.std.proofs.Math.ListN.{drop_of_length-le}
use Rattle.std.proofs.Math.Seq.{drop-cons}
use Rattle.bgp_open.specs.OpenFault.{IsWellFormed}
use Rattle.bgp_recording.specs.declared.message.Message.{Message}
use Rattle.bgp_ended.specs.FirstOpen.{FirstOpen}

module _ (messages : List Message) (i : ℕ) (d : Message) (within : i < length messages) where
  -- those from the index on
  rest_here : drop i messages ≡ get_or messages i d ∷ drop (i + 1) messages
  rest_here = rw add-one (drop-cons messages i d within)

  pub open_here : IsWellFormed (get_or messages i d).octets.now → FirstOpen (drop i messages) (Some (get_or messages i d).octets.now)
  open_here is = subst (λ (v : List Message). FirstOpen v (Some (get_or messages i d).octets.now)) (sym rest_here) (inl (is, refl))

  pub open_behind : (found : Option (List ℕ)) → ¬ IsWellFormed (get_or messages i d).octets.now → FirstOpen (drop (i + 1) messages) found
      → FirstOpen (drop i messages) found
  open_behind found isnt has = subst (λ (v : List Message). FirstOpen v found) (sym rest_here) (inr (isnt, has))

pub no_open : (messages : List Message) (i : ℕ) → length messages ≤ i → FirstOpen (drop i messages) None
no_open messages i at_most = subst (λ (v : List Message). FirstOpen v None) (sym (drop_of_length-le messages at_most)) refl
