-- The parts of an UPDATE, one by one.
use Rattle.std.specs.Prelude.{ℕ, List, codes}
use Rattle.json.specs.Json.{Json, string}
use Rattle.bgp_attr.specs.Field.{Attribute}
use Rattle.bgp_update.specs.Parts.{UpdateParts}
use Rattle.bgp_update.specs.declared.destination.Destination.{Destination}

abbrev pub parts_with : List Destination → List Attribute → List Destination → UpdateParts
parts_with withdrawn attributes nlri = record {
  withdrawn = withdrawn;
  attributes = attributes;
  nlri = nlri;
}

-- what its object says it is
abbrev pub update_type : List ℕ × Json
update_type = (codes "type", string (codes "update"))
