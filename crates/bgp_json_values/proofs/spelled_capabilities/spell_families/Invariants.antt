use Rattle.std.proofs.Common.{◌≡◌, ◌++◌, flat_map, length}
use Rattle.bgp_values.specs.Items.{items_of}
use Rattle.bgp_json_values.specs.CapabilityJson.{spelled_family}
use Rattle.bgp_json_values.proofs.spelled_capabilities.spell_families.Given as goal

-- what is written and what is left to write are all
abbrev pub invariant-loop-piece : goal.invariant-loop-piece
invariant-loop-piece g l =
    l.out.items ++ flat_map spelled_family (items_of l.item l.rest)
    ≡ l.fn.out.items ++ flat_map spelled_family (items_of l.item l.octets)

abbrev pub decreases-loop-piece : goal.decreases-loop-piece
decreases-loop-piece g l = length l.rest
