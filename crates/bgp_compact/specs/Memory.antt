-- What a tracker of a session takes memory for: an UPDATE received in Established, while nothing is
-- owed, that may be applied (RFC 4271, 9).
use Rattle.std.specs.Prelude.{◌≡◌, ◌++◌, ℕ, List, [], ◌∷◌}
use Rattle.bgp_prefix.specs.Shown.{ShownRecord, Received, Sent, Changed}
use Rattle.bgp_open.specs.declared.config.Config.{Config}
use Rattle.bgp_open.specs.declared.link.Link.{Link}
use Rattle.bgp_update.specs.Outcome.{IsOnlyReset}
use Rattle.bgp_machine.specs.declared.fsm.Fsm.TheVariants as fsms
use Rattle.bgp_machine.specs.Run.{Begins, End, IsComplete}
use Rattle.bgp_judge.specs.Openings.{ListTakesMemory}
use Rattle.bgp_judge.specs.Told.{link_told, told}
use Rattle.bgp_compact.specs.declared.base.Base.{Base}
use Rattle.bgp_compact.specs.declared.words.Words.{Words}
use Rattle.bgp_compact.specs.Parts.{IsBase}

-- One record more, after these, takes memory. Octets that are no UPDATE are none that may be
-- applied; and nothing is owed where some run shows just the records.
abbrev pub TakesMemory : Config → List ShownRecord → ShownRecord → Type 0
TakesMemory config records (Received second octets) =
    ((told records).fsm ≡ fsms.Established)
    × (¬ IsOnlyReset (link_told config (told records)) octets)
    × ((e : End) × IsComplete config records e)
TakesMemory config records (Sent second octets) = ⊥
TakesMemory config records (Changed second old new) = ⊥

-- at a record for which memory is taken no verdict of no stands: on the link that the records tell,
-- it isn't so that the records with these octets begin no run
abbrev pub IsNeverImpossible : Config → Link → List ℕ → Type 0
IsNeverImpossible config link octets =
    (records : List ShownRecord) (t : ℕ) → link ≡ link_told config (told records)
    → TakesMemory config records (Received t octets)
    → ¬ ¬ Begins config (records ++ Received t octets ∷ [])

-- to list the steps that it opens from the head of the base takes memory
abbrev pub BaseTakesMemory : Words → ShownRecord → Type 0
BaseTakesMemory words shown = (base : Base) × IsBase words base × ListTakesMemory base.head shown
