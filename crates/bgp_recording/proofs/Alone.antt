-- The records of entries alone.
use Rattle.std.proofs.Common.{◌≡◌, ◌∙◌, ◌+◌, ◌<◌, ◌++◌, ℕ, List, [], ◌∷◌, refl, sym, ap, get_or, length, map, take}
use Rattle.std.proofs.lemmas.List.{map-append, take_more}
use Rattle.bgp_prefix.specs.Shown.{ShownRecord}
use Rattle.mrt.specs.Reader.{shown_of}
use Rattle.mrt.specs.declared.record.Record.{Record}
use Rattle.bgp_recording.specs.Captured.{records_of}
use Rattle.bgp_recording.specs.declared.entry.Entry.{Entry}

pub one_more : (entries : List Entry) (i : ℕ) (d : Entry) → i < length entries → (records : List Record) → records ≡ map (λ (e : Entry). e.record) (take i entries)
    → records ++ (get_or entries i d).record ∷ [] ≡ map (λ (e : Entry). e.record) (take (i + 1) entries)
one_more entries i d within records is =
    ap (λ (rs : List Record). rs ++ (get_or entries i d).record ∷ []) is
    ∙ sym (map-append (λ (e : Entry). e.record) (take i entries) (get_or entries i d ∷ []))
    ∙ ap (map (λ (e : Entry). e.record)) (sym (take_more entries i d within))

pub all_shown : (entries : List Entry) → map shown_of (map (λ (e : Entry). e.record) entries) ≡ records_of entries
all_shown [] = refl
all_shown (e ∷ entries) = ap (λ (rest : List ShownRecord). shown_of e.record ∷ rest) (all_shown entries)
