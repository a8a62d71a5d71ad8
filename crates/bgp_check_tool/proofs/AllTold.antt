-- All that is told of a recording, with its packets.
use Rattle.std.proofs.Common.{◌≡◌, ◌∙◌, ◌⊎◌, ℕ, List, [], Option, None, inl, inr, subst}
use Rattle.std.specs.List.{AllByRecursion, Contains}
use Rattle.std.specs.Map.{keys_of}
use Rattle.packets.specs.Packet.{Recorded}
use Rattle.bgp_import.specs.declared.refusal.Refusal.{Refusal}
use Rattle.bgp_check_tool.specs.declared.options.CheckOptions.{CheckOptions}
use Rattle.bgp_check_tool.specs.Blocks.{Block}
use Rattle.bgp_import.specs.Places.{HasAll}
use Rattle.bgp_check_tool.specs.Places.{IsToldAt}
use Rattle.bgp_import.specs.Reading.{IsMemory}
use Rattle.bgp_list.proofs.PutSoFar.{without_keys}

-- the number of the last packet that was looked at
pub as_many : (options : CheckOptions) (last many : ℕ) (packets : List Recorded) (blocks : List (ℕ × Block)) → last ≡ many
    → AllByRecursion (λ (b : ℕ × Block). IsToldAt options packets last b.0 b.1) blocks
    → AllByRecursion (λ (b : ℕ × Block). IsToldAt options packets many b.0 b.1) blocks
as_many options last many packets blocks same all =
    subst (λ (n : ℕ). AllByRecursion (λ (b : ℕ × Block). IsToldAt options packets n b.0 b.1) blocks) same all

-- no block lacks, unless memory was refused
pub nothing_lacks : (port : ℕ) (packets : List Recorded) (places places' : List ℕ) (Each : Type 0) (lacking stopped : Option Refusal) → places ≡ places'
    → (¬ IsMemory stopped → Each) → (lacking ≡ None → Each → HasAll port packets (Contains places))
    → lacking ≡ None → ¬ IsMemory stopped → HasAll port packets (Contains places')
nothing_lacks port packets places places' Each lacking stopped same each all none ample =
    subst (λ (ps : List ℕ). HasAll port packets (Contains ps)) same (all none (each ample))

-- memory for a list of them was refused where there is none
pub no_block_lacks : (lacking : Option Refusal) (places : List ℕ) (blocks : List (ℕ × Block)) → keys_of blocks ≡ places
    → (lacking ≡ None) ⊎ (places ≡ []) → (lacking ≡ None) ⊎ (blocks ≡ [])
no_block_lacks lacking places blocks are (inl calm) = inl calm
no_block_lacks lacking places blocks are (inr empty) = inr (without_keys blocks (are ∙ empty))

-- and where there is something to tell of
pub some_block_lacks : (port : ℕ) (packets : List Recorded) (places places' : List ℕ) (lacking : Option Refusal) → places ≡ places'
    → (lacking ≡ None) ⊎ (¬ HasAll port packets (Contains places)) → (lacking ≡ None) ⊎ (¬ HasAll port packets (Contains places'))
some_block_lacks port packets places places' lacking same some =
    subst (λ (ps : List ℕ). (lacking ≡ None) ⊎ (¬ HasAll port packets (Contains ps))) same some
