-- What becomes of a recording is one thing: a capture of it, or one refusal.
use Rattle.std.specs.Prelude.{◌≡◌, ℕ, List}
use Rattle.bgp_import.specs.Importing.{IsFirstRefusal, IsImported}
use Rattle.bgp_import.specs.declared.importing.Import.{Import}
use Rattle.bgp_import.specs.declared.note.Notes.{Notes}
use Rattle.bgp_import.specs.declared.refusal.Refusal.{Refusal}

-- a recording has one first refusal at the most
abbrev pub FirstRefusalsAreOne : Type 0
FirstRefusalsAreOne =
    (wanted : Import) (recording : List ℕ) (one other : Refusal)
    → IsFirstRefusal wanted recording one → IsFirstRefusal wanted recording other → one ≡ other

-- and where it has one, no capture is made of it
abbrev pub NoneIsImportedAndRefused : Type 0
NoneIsImportedAndRefused =
    (wanted : Import) (recording octets : List ℕ) (notes : Notes) (refusal : Refusal)
    → IsImported wanted recording octets notes → IsFirstRefusal wanted recording refusal → ⊥
