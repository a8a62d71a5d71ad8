-- What the fields of an UPDATE come to, before it is decided what to do about it: the facts that
-- the rules of `MpFaults`, `WithdrawFaults` and `ResetFaults` speak of.
use Rattle.std.specs.Prelude.{ℕ, ◌==◌, ◌&&◌, Bool, true, false, not, List, [], ◌∷◌, Option, Some}
use Rattle.std.specs.Prelude.{is_some, if◌then◌else◌}
use Rattle.std.specs.List.{list_any}
use Rattle.bgp_open.specs.Family.{Family}
use Rattle.bgp_open.specs.Family.TheVariants.{V4}
use Rattle.bgp_open.specs.declared.link.Link.{Link}
use Rattle.bgp_open.specs.declared.route_form.RouteForm.{RouteForm}
use Rattle.bgp_attr.specs.declared.classes.AttrVerdict.{AttrVerdict}
use Rattle.bgp_attr.specs.declared.classes.AttrVerdict.TheVariants.{Good, Discard, Withdraw, Reset}
use Rattle.bgp_attr.specs.declared.classes.Side.{Side}
use Rattle.bgp_attr.specs.declared.field.Tail.{Tail}
use Rattle.bgp_attr.specs.Class.{class_of}
use Rattle.bgp_attr.specs.Field.{Attribute}
use Rattle.bgp_attr.specs.First.{first_by_type, first_of, firsts, has_repeats}
use Rattle.bgp_attr.specs.declared.types.AttrType.{AttrType}
use Rattle.bgp_attr.specs.declared.types.AttrType.TheVariants as types
use Rattle.bgp_attr.specs.Types.{type_number}
use Rattle.bgp_attr.specs.Split.{attributes_of, rest_of, tail_at}
use Rattle.bgp_update.specs.Mp.{Mp, mp_state, has_other_bits}
use Rattle.bgp_update.specs.MpValue.{Contents, reach_contents, unreach_contents}
use Rattle.bgp_update.specs.declared.destination.Destination.{Destination}
use Rattle.bgp_update.specs.Destinations.{destinations_of, is_identified}
use Rattle.bgp_update.specs.Sections.{Sections}

-- what of a link decides how attributes are read
abbrev pub side_of : Link → Side
side_of link = record { as4 = link.as4; internal = link.internal }

-- an MP attribute, by its first occurrence
pub record MpFound : Type 0 where
  pub state : Mp
  -- its bits are in conflict with its type
  pub other_bits : Bool
  -- its type stands more than once
  pub is_repeated : Bool

-- whether some first occurrence, types 14 and 15 apart, is of a class
pub record ClassesFound : Type 0 where
  pub reset : Bool
  pub withdraw : Bool
  -- and its type is none of ATOMIC_AGGREGATE and AGGREGATOR
  pub plain_withdraw : Bool
  pub discard : Bool

-- which attributes are there
pub record TypesFound : Type 0 where
  pub origin : Bool
  pub as_path : Bool
  pub next_hop : Bool
  -- some attribute of another type than MP_UNREACH_NLRI
  pub other : Bool
  -- some type more than once
  pub has_repeats : Bool

pub record Found : Type 0 where
  -- the destinations of the Withdrawn Routes and NLRI fields: none where those are incorrect
  pub withdrawn : Option (List Destination)
  pub nlri : Option (List Destination)
  pub reach : MpFound
  pub unreach : MpFound
  pub classes : ClassesFound
  pub types : TypesFound
  -- what stands behind the last whole attribute
  pub tail : Option Tail

-- the class is this one; MP attributes have none
abbrev pub is_class : AttrVerdict → Option AttrVerdict → Bool
is_class Good (Some Good) = true
is_class Discard (Some Discard) = true
is_class Withdraw (Some Withdraw) = true
is_class Reset (Some Reset) = true
is_class _ _ = false

abbrev pub has_class : Side → AttrVerdict → List Attribute → Bool
has_class side verdict attributes = list_any (λ a. is_class verdict (class_of side a)) attributes

abbrev pub classes_found : Side → List Attribute → ClassesFound
classes_found side attributes = record {
  reset = has_class side Reset attributes;
  withdraw = has_class side Withdraw attributes;
  plain_withdraw = list_any
      (λ a. is_class Withdraw (class_of side a) && not (a.kind == 6) && not (a.kind == 7))
      attributes;
  discard = has_class side Discard attributes;
}

abbrev pub types_found : List Attribute → TypesFound
types_found attributes = record {
  origin = is_some (first_by_type attributes types.Origin);
  as_path = is_some (first_by_type attributes types.AsPath);
  next_hop = is_some (first_by_type attributes types.NextHop);
  other = list_any (λ a. not (a.kind == 15)) attributes;
  has_repeats = has_repeats attributes;
}

-- the type stands more than once
abbrev pub is_repeated : ℕ → List Attribute → Bool
is_repeated kind [] = false
is_repeated kind (a ∷ rest) =
    if a.kind == kind then is_some (first_of kind rest) else is_repeated kind rest

-- what the MP attributes of a type come to, whose contents are read so
abbrev pub mp_found : Link → (Family → List ℕ → Option Contents) → AttrType → List Attribute
    → MpFound
mp_found link read t attributes = record {
  state = mp_state link.families read (first_by_type attributes t);
  other_bits = has_other_bits t (first_by_type attributes t);
  is_repeated = is_repeated (type_number t) attributes;
}

-- what destinations, attributes and a tail come to if routes are spelled in this form; only the
-- first attribute of a type is classed (RFC 7606, 3 g)
abbrev pub found_of : Link → RouteForm → Option (List Destination) → Option (List Destination)
    → List Attribute → Option Tail → Found
found_of link form withdrawn nlri attributes tail = record {
  withdrawn = withdrawn;
  nlri = nlri;
  reach = mp_found link (reach_contents form) types.MpReachNlri attributes;
  unreach = mp_found link (unreach_contents form) types.MpUnreachNlri attributes;
  classes = classes_found (side_of link) (firsts attributes);
  types = types_found attributes;
  tail = tail;
}

-- what the three fields come to if routes are spelled in this form
abbrev pub found_by_form : Link → RouteForm → Sections → Found
found_by_form link form s =
    found_of link form (destinations_of (is_identified form V4) V4 s.withdrawn)
    (destinations_of (is_identified form V4) V4 s.nlri)
    (attributes_of s.attributes) (tail_at (rest_of s.attributes))

-- what those of an UPDATE that was received over the link come to
abbrev pub found : Link → Sections → Found
found link s = found_by_form link link.received s
