-- What the next records show, in words, each with an octet 0 behind them.
use Rattle.std.specs.Prelude.{◌≡◌, ◌<◌, ◌≤◌, ◌==◌, ◌+◌, ◌-◌, ◌++◌, ℕ, List, [], ◌∷◌}
use Rattle.std.specs.Prelude.{drop, if◌then◌else◌, length, take}
use Rattle.bgp_prefix.specs.Shown.{ShownRecord}
use Rattle.mrt.specs.Reader.{shown_of}
use Rattle.bgp_html.specs.Escaped.{escaped}
use Rattle.bgp_lines.specs.Form.{Before, before_behind}
use Rattle.bgp_recording.specs.declared.entry.Entry.{Entry}
use Rattle.bgp_recording.specs.declared.framing.Framings.{Framings}
use Rattle.bgp_values.specs.Opens.{AreOpens}
use Rattle.bgp_values.specs.declared.opens.Opens.{Opens}
use Rattle.bgp_ladder.specs.Deed.{IsDeedBy}
use Rattle.bgp_ladder.specs.declared.runs.Part.{Part}
use Rattle.bgp_ladder.specs.declared.runs.Part.TheVariants as parts

-- these are the last OPENs behind a record, if those were before it
abbrev pub IsBehind : Opens → ShownRecord → Opens → Type 0
IsBehind opens shown next =
    (before : Before) → AreOpens before.received before.sent opens
    → AreOpens (before_behind shown before).received (before_behind shown before).sent next

-- the words of these, where those were the last OPENs
abbrev pub AreDeeds : Framings → Opens → List Entry → List ℕ → Type 0
AreDeeds framings opens [] octets = octets ≡ []
AreDeeds framings opens (entry ∷ entries) octets =
    (next : Opens) × (text rest : List ℕ) × IsBehind opens (shown_of entry.record) next
    × IsDeedBy framings opens (shown_of entry.record) text × AreDeeds framings next entries rest
    × (octets ≡ text ++ 0 ∷ rest)

-- HTML has each part of these octets as it is
abbrev pub ArePlain : List ℕ → Type 0
ArePlain octets =
    (from count : ℕ) → escaped (take count (drop from octets)) ≡ take count (drop from octets)

-- how many octets 0 there are
abbrev pub zeros : List ℕ → ℕ
zeros [] = 0
zeros (octet ∷ octets) = if octet == 0 then zeros octets + 1 else zeros octets

-- where the first of them stands, or how many octets there are
abbrev pub first_zero : List ℕ → ℕ
first_zero [] = 0
first_zero (octet ∷ octets) = if octet == 0 then 0 else first_zero octets + 1

-- where the words of the first of so many records end
abbrev pub first_end : ℕ → List ℕ → ℕ
first_end left octets =
    if left == 0 then 0 else if left == 1 then length octets - 1 else first_zero octets

-- Octets are the words of the first of these, of so many: those of one, or there is no octet 0 but
-- behind each.
abbrev pub Holds : Framings → Opens → List Entry → ℕ → List ℕ → Type 0
Holds framings opens entries left octets =
    (left ≤ length entries) × AreDeeds framings opens (take left entries) octets
    × (1 < left → zeros octets ≡ left)

-- the same, behind these messages
abbrev pub IsBatch : Framings → Before → List Entry → ℕ → List ℕ → Type 0
IsBatch framings before entries left octets =
    (opens : Opens) × AreOpens before.received before.sent opens
    × Holds framings opens entries left octets

-- it has a row of its own
abbrev pub HasWords : Part → Type 0
HasWords parts.Own = Unit {0}
HasWords parts.Last = Unit {0}
HasWords (parts.Sum count) = ⊥
HasWords parts.Summed = ⊥

-- so these have to be what it shows
abbrev pub IsShownBy : Framings → Opens → ShownRecord → Part → List ℕ → Type 0
IsShownBy framings opens shown parts.Own text = IsDeedBy framings opens shown text
IsShownBy framings opens shown parts.Last text = IsDeedBy framings opens shown text
IsShownBy framings opens shown (parts.Sum count) text = Unit {0}
IsShownBy framings opens shown parts.Summed text = Unit {0}
