-- Notes in memory.
use Rattle.std.specs.Prelude.{◌≡◌, ℕ, List, IsFalse, map}
use Rattle.std.specs.declared.vec.Vec.{Vec}
use Rattle.bgp_html.specs.Noted.{Noted}
use Rattle.bgp_html.specs.declared.notes.Notes.{Notes}

abbrev pub octets_in : {Y : Type 0} → Vec ℕ Y → List ℕ
octets_in octets = octets.items

abbrev pub noted_by : {Y : Type 0} → Notes Y → Noted
noted_by notes = record { done = map octets_in notes.done.items; last = notes.last.items }

-- these were made of those so, if none is missing
abbrev pub IsNotedBy : {Y : Type 0} → Notes Y → Notes Y → (Noted → Noted) → Type 0
IsNotedBy old new step =
    IsFalse new.are_missing
    → IsFalse old.are_missing × (noted_by new ≡ step (noted_by old))
