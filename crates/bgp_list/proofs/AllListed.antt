-- All that is listed of a recording, and its status.
use Rattle.std.proofs.Common.{◌≡◌, ℕ, List, [], Option, None, subst}
use Rattle.std.specs.List.{AllByRecursion, Contains, IsDistinct}
use Rattle.packets.specs.Packet.{Recorded}
use Rattle.bgp_import.specs.declared.refusal.Refusal.{Refusal}
use Rattle.bgp_import.specs.Places.{HasAll}
use Rattle.bgp_import.specs.Reading.{IsMemory}
use Rattle.bgp_list.specs.Firsts.{AreApart}
use Rattle.bgp_list.specs.Lines.{IsLineAt, LineValue}

-- the number of the last packet that was looked at
pub as_many : (port last many : ℕ) (packets : List Recorded) (lines : List (ℕ × LineValue)) → last ≡ many
    → AllByRecursion (λ (l : ℕ × LineValue). IsLineAt port packets last l.0 l.1) lines → AllByRecursion (λ (l : ℕ × LineValue). IsLineAt port packets many l.0 l.1) lines
as_many port last many packets lines same all = subst (λ (n : ℕ). AllByRecursion (λ (l : ℕ × LineValue). IsLineAt port packets n l.0 l.1) lines) same all

-- no line lacks, unless memory was refused
pub nothing_lacks : (port : ℕ) (packets : List Recorded) (places places' : List ℕ) (Each : Type 0) (lacking stopped : Option Refusal) → places ≡ places'
    → (¬ IsMemory stopped → Each) → (lacking ≡ None → Each → HasAll port packets (Contains places))
    → lacking ≡ None → ¬ IsMemory stopped → HasAll port packets (Contains places')
nothing_lacks port packets places places' Each lacking stopped same each all none ample =
    subst (λ (ps : List ℕ). HasAll port packets (Contains ps)) same (all none (each ample))

pub none_apart : AreApart []
unfolding IsDistinct
none_apart = tt
