-- Sets of sets of disabled families (RFC 7606, 2).
use Rattle.std.specs.Prelude.{Bool, true, false, ◌||◌, if◌then◌else◌}
use Rattle.bgp_open.specs.declared.families.Families.{Families}
use Rattle.bgp_compact.specs.declared.disabled.DisabledSets.{DisabledSets}

-- the set of these families is among them
abbrev pub holds : DisabledSets → Families → Bool
holds sets families =
    if families.v4 then (if families.v6 then sets.both else sets.v4)
    else (if families.v6 then sets.v6 else sets.none)

abbrev pub no_sets : DisabledSets
no_sets = record { none = false; v4 = false; v6 = false; both = false }

-- the set without a family
abbrev pub only_none : DisabledSets
only_none = record { none = true; v4 = false; v6 = false; both = false }

-- each set, with these families besides
abbrev pub shifted_by : Families → DisabledSets → DisabledSets
shifted_by families sets =
    if families.v4
    then (if families.v6
    then record {
      none = false;
      v4 = false;
      v6 = false;
      both = (sets.none || sets.v4) || (sets.v6 || sets.both);
    }
    else record {
      none = false;
      v4 = sets.none || sets.v4;
      v6 = false;
      both = sets.v6 || sets.both;
    })
    else (if families.v6
    then record {
      none = false;
      v4 = false;
      v6 = sets.none || sets.v6;
      both = sets.v4 || sets.both;
    }
    else sets)
