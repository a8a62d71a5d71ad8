-- The highest state, record by record.
use Rattle.std.proofs.Common.{◌≡◌, ◌∙◌, ◌+◌, ◌<◌, ℕ, List, ◌∷◌, sym, ap, add-one, arith, drop, get_or, length, map, max}
use Rattle.std.proofs.Math.Seq.{drop-cons}
use Rattle.mrt.specs.Reader.{shown_of}
use Rattle.mrt.specs.declared.record.Record.{Record}
use Rattle.bgp_check_text.specs.Highest.{highest_state, new_state}

max_assoc : (a b c : ℕ) → max (max a b) c ≡ max a (max b c)
max_assoc a b c = grind arith

pub one_higher : (records : List Record) (i : ℕ) (d : Record) → i < length records → (highest wanted : ℕ)
    → max highest (highest_state (map shown_of (drop i records))) ≡ wanted
    → max (max highest (new_state (shown_of (get_or records i d)))) (highest_state (map shown_of (drop (i + 1) records))) ≡ wanted
one_higher records i d within highest wanted is =
    let here : drop i records ≡ get_or records i d ∷ drop (i + 1) records = rw add-one (drop-cons records i d within) in
    max_assoc highest (new_state (shown_of (get_or records i d))) (highest_state (map shown_of (drop (i + 1) records)))
    ∙ sym (ap (λ (rs : List Record). max highest (highest_state (map shown_of rs))) here) ∙ is
