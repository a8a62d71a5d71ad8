-- What is noted of a text: the definitions are bgp_html's.
use Rattle.std.specs.Prelude.{◌≡◌, ℕ, List, IsFalse}
use Rattle.bgp_html.specs.Noted.{noted_of}
use Rattle.bgp_html.specs.Notes.{noted_by}
use Rattle.bgp_html.specs.declared.notes.Notes.{Notes}

-- these are those of this text, if none is missing
abbrev pub AreNotes : {Y : Type 0} → List ℕ → Notes Y → Type 0
AreNotes text notes = IsFalse notes.are_missing → noted_by notes ≡ noted_of text
