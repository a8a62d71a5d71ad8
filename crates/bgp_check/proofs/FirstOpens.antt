-- Both OPENs of records, from one record on.
use Rattle.std.proofs.Common.{◌≡◌, ◌+◌, ◌<◌, ℕ, List, ◌∷◌, inl, inr, ap, sym, subst, add-one, drop, map, length, get_or, Option, Some}
use Rattle.std.proofs.Math.Seq.{drop-cons}
use Rattle.mrt.specs.Reader.{shown_of}
use Rattle.mrt.specs.declared.record.Record.{Record}
use Rattle.bgp_prefix.specs.Shown.{ShownRecord, Received, Sent, Changed}
use Rattle.bgp_parts.specs.Opens.{FirstReceived, FirstSent, IsReceived, IsSent, ReceivesNone, SendsNone}

sent_first : (Is : List ℕ → Type 0) (shown : ShownRecord) (records : List ShownRecord) (found : List ℕ) → IsSent Is shown found
    → FirstSent Is (shown ∷ records) (Some found)
sent_first Is (Sent t octets) records found is = inl (is.0, ap Some is.1)
sent_first Is shown records found is = absurd is

sent_later : (Is : List ℕ → Type 0) (shown : ShownRecord) (records : List ShownRecord) (found : Option (List ℕ)) → SendsNone Is shown
    → FirstSent Is records found → FirstSent Is (shown ∷ records) found
sent_later Is (Sent t octets) records found none has = inr (none, has)
sent_later Is (Received t octets) records found none has = has
sent_later Is (Changed t old new) records found none has = has

received_first : (Is : List ℕ → Type 0) (shown : ShownRecord) (records : List ShownRecord) (found : List ℕ) → IsReceived Is shown found
    → FirstReceived Is (shown ∷ records) (Some found)
received_first Is (Received t octets) records found is = inl (is.0, ap Some is.1)
received_first Is shown records found is = absurd is

received_later : (Is : List ℕ → Type 0) (shown : ShownRecord) (records : List ShownRecord) (found : Option (List ℕ)) → ReceivesNone Is shown
    → FirstReceived Is records found → FirstReceived Is (shown ∷ records) found
received_later Is (Received t octets) records found none has = inr (none, has)
received_later Is (Sent t octets) records found none has = has
received_later Is (Changed t old new) records found none has = has

module _ (records : List Record) (i : ℕ) (d : Record) (within : i < length records) where
  -- those from the index on
  rest_here : drop i records ≡ get_or records i d ∷ drop (i + 1) records
  rest_here = rw add-one (drop-cons records i d within)

  from_here : map shown_of (drop i records) ≡ shown_of (get_or records i d) ∷ map shown_of (drop (i + 1) records)
  from_here = ap (map shown_of) rest_here

  pub sent_here : (Is : List ℕ → Type 0) (found : List ℕ) → IsSent Is (shown_of (get_or records i d)) found
      → FirstSent Is (map shown_of (drop i records)) (Some found)
  sent_here Is found is = subst (λ (v : List ShownRecord). FirstSent Is v (Some found)) (sym from_here)
      (sent_first Is (shown_of (get_or records i d)) (map shown_of (drop (i + 1) records)) found is)

  pub sent_behind : (Is : List ℕ → Type 0) (found : Option (List ℕ)) → SendsNone Is (shown_of (get_or records i d))
      → FirstSent Is (map shown_of (drop (i + 1) records)) found → FirstSent Is (map shown_of (drop i records)) found
  sent_behind Is found none has = subst (λ (v : List ShownRecord). FirstSent Is v found) (sym from_here)
      (sent_later Is (shown_of (get_or records i d)) (map shown_of (drop (i + 1) records)) found none has)

  pub received_here : (Is : List ℕ → Type 0) (found : List ℕ) → IsReceived Is (shown_of (get_or records i d)) found
      → FirstReceived Is (map shown_of (drop i records)) (Some found)
  received_here Is found is = subst (λ (v : List ShownRecord). FirstReceived Is v (Some found)) (sym from_here)
      (received_first Is (shown_of (get_or records i d)) (map shown_of (drop (i + 1) records)) found is)

  pub received_behind : (Is : List ℕ → Type 0) (found : Option (List ℕ)) → ReceivesNone Is (shown_of (get_or records i d))
      → FirstReceived Is (map shown_of (drop (i + 1) records)) found → FirstReceived Is (map shown_of (drop i records)) found
  received_behind Is found none has = subst (λ (v : List ShownRecord). FirstReceived Is v found) (sym from_here)
      (received_later Is (shown_of (get_or records i d)) (map shown_of (drop (i + 1) records)) found none has)
