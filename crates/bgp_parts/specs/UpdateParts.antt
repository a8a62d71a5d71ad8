-- The parts of an UPDATE on a link, in one form in which its routes may be spelled: all that keeps
-- it from being clean (RFC 4271, 4.3 and 5; RFC 7606, 3; RFC 7911, 5; RFC 8950, 4).
use Rattle.std.specs.Prelude.{◌≡◌, ◌≤◌, ◌↔◌, ◌==◌, ◌&&◌, ◌||◌, ◌++◌, ◌⊎◌, ◌∷◌, Bool, not, ℕ}
use Rattle.std.specs.Prelude.{if◌then◌else◌, List, []}
use Rattle.std.specs.Prelude.{Option, None, Some, is_some, is_none, length, map}
use Rattle.bgp_prefix.specs.declared.family.Family.TheVariants.{V4}
use Rattle.bgp_wire.specs.Framing.{IsFrame}
use Rattle.bgp_wire.specs.Header.{limit_with}
use Rattle.bgp_open.specs.declared.link.Link.{Link}
use Rattle.bgp_open.specs.declared.route_form.RouteForm.{RouteForm}
use Rattle.bgp_open.specs.Families.{contains}
use Rattle.bgp_attr.specs.declared.field.Tail.{Tail}
use Rattle.bgp_attr.specs.declared.field.Tail.TheVariants as tails
use Rattle.bgp_attr.specs.declared.types.AttrType.{AttrType}
use Rattle.bgp_attr.specs.declared.types.AttrType.TheVariants as types
use Rattle.bgp_attr.specs.Field.{Attribute, attribute_of}
use Rattle.bgp_attr.specs.First.{first_of, first_by_type}
use Rattle.bgp_attr.specs.Split.{attributes_of, rest_of, tail_at}
use Rattle.bgp_update.specs.declared.destination.Destination.{Destination}
use Rattle.bgp_update.specs.Clean.{IsClean, most_octets}
use Rattle.bgp_update.specs.Found.{is_repeated}
use Rattle.bgp_update.specs.Destinations.{destinations_of, is_identified}
use Rattle.bgp_update.specs.Sections.{Sections, IsUpdate, IsMalformed}
use Rattle.bgp_parts.specs.AttributeFaults.{first_faults}
use Rattle.bgp_parts.specs.declared.attribute.AttributeFault.{AttributeFault}
use Rattle.bgp_parts.specs.declared.attribute.AttributeFault.TheVariants.{Repeated}
use Rattle.bgp_parts.specs.declared.update.UpdatePart as declared
use Rattle.bgp_parts.specs.declared.update.UpdatePart.TheVariants as parts

pub data Part : Type 0 where
  -- the lengths of the fields run over the message
  LengthsRunOver : Part
  -- the Withdrawn Routes field, or NLRI, isn't a list of IPv4 destinations
  WithdrawnMalformed : Part
  NlriMalformed : Part
  -- an attribute has this fault
  Faulty : Attribute → AttributeFault → Part
  -- after the last attribute stands a part of a header, or one of this type that runs over
  AttributesCut : Part
  Overrun : ℕ → Part
  -- a mandatory attribute isn't there
  Missing : AttrType → Part
  -- IPv4 isn't in use, and there are destinations of it in one of both fields
  BaseNotInUse : Part

-- what a part that was read tells
abbrev pub shown_part : declared.UpdatePart → Part
shown_part parts.LengthsRunOver = LengthsRunOver
shown_part parts.WithdrawnMalformed = WithdrawnMalformed
shown_part parts.NlriMalformed = NlriMalformed
shown_part (parts.Faulty attr fault) = Faulty (attribute_of attr) fault
shown_part parts.AttributesCut = AttributesCut
shown_part (parts.Overrun kind) = Overrun kind
shown_part (parts.Missing t) = Missing t
shown_part parts.BaseNotInUse = BaseNotInUse

-- the part, where that holds
abbrev pub part_if : Bool → Part → List Part
part_if holds part = if holds then part ∷ [] else []

-- The parts of an attribute after these, the last of which stands first: the faults of the first
-- of its type; of the second that it is repeated; and none of a further one, since what repeats a
-- type is discarded unread (RFC 7606, 3 g)
abbrev pub parts_after : Link → RouteForm → List Attribute → Attribute → List Part
parts_after link form before a =
    if is_some (first_of a.kind before)
    then part_if (not (is_repeated a.kind before)) (Faulty a Repeated)
    else map (Faulty a) (first_faults link form a)

-- those of all attributes, in wire order
abbrev pub attribute_parts : Link → RouteForm → List Attribute → List Attribute → List Part
attribute_parts link form before [] = []
attribute_parts link form before (a ∷ rest) =
    parts_after link form before a ++ attribute_parts link form (a ∷ before) rest

-- what follows the last attribute
abbrev pub tail_parts : Option Tail → List Part
tail_parts None = []
tail_parts (Some tails.ShortHeader) = AttributesCut ∷ []
tail_parts (Some (tails.Overrun kind)) = Overrun kind ∷ []

-- a field has octets
abbrev pub is_filled : List ℕ → Bool
is_filled field = not (length field == 0)

-- there is no attribute of this type
abbrev pub is_absent : List Attribute → AttrType → Bool
is_absent attributes t = is_none (first_by_type attributes t)

-- ORIGIN and AS_PATH are mandatory where NLRI isn't empty or MP_REACH_NLRI is there, whatever it
-- holds, and NEXT_HOP where NLRI isn't empty (RFC 4271, 5; RFC 4760, 3; RFC 7606, 3 d)
abbrev pub missing_parts : List ℕ → List Attribute → List Part
missing_parts nlri attributes =
    let announces = is_filled nlri || not (is_absent attributes types.MpReachNlri) in
    part_if (is_absent attributes types.Origin && announces) (Missing types.Origin)
    ++ (part_if (is_absent attributes types.AsPath && announces) (Missing types.AsPath)
    ++ part_if (is_absent attributes types.NextHop && is_filled nlri) (Missing types.NextHop))

-- the IPv4 destinations of the Withdrawn Routes field or of NLRI, where routes are spelled in this
-- form: none where the field is incorrect
abbrev pub base_list : RouteForm → List ℕ → Option (List Destination)
base_list form field = destinations_of (is_identified form V4) V4 field

-- such a field holds some: an incorrect one holds none
abbrev pub has_destinations : RouteForm → List ℕ → Bool
has_destinations form field = is_filled field && is_some (base_list form field)

-- IPv4 isn't in use, and one of both fields holds destinations of it
abbrev pub base_parts : Link → RouteForm → Sections → List Part
base_parts link form s =
    part_if (not (contains link.families V4)
    && (has_destinations form s.withdrawn || has_destinations form s.nlri))
    BaseNotInUse

-- all parts of an UPDATE with these fields, in the order in which they are told
abbrev pub section_parts : Link → RouteForm → Sections → List Part
section_parts link form s =
    part_if (is_none (base_list form s.withdrawn)) WithdrawnMalformed
    ++ (part_if (is_none (base_list form s.nlri)) NlriMalformed
    ++ (attribute_parts link form [] (attributes_of s.attributes)
    ++ (tail_parts (tail_at (rest_of s.attributes))
    ++ (missing_parts s.nlri (attributes_of s.attributes)
    ++ base_parts link form s))))

-- the parts of octets; where the lengths run over, or they are no UPDATE at all, nothing else
abbrev pub AreUpdateParts : Link → RouteForm → List ℕ → List Part → Type 0
AreUpdateParts link form octets told =
    (IsMalformed octets × (told ≡ LengthsRunOver ∷ []))
    ⊎ ((s : Sections) × IsUpdate octets s × (told ≡ section_parts link form s))

-- An UPDATE is clean exactly where it has no part in the form in which routes are sent on the link,
-- and no more octets than the link allows. So of a message that is whole on the link, there is no
-- part exactly where it is clean.
pub record CleanLacksNothing : Type 0 where
  pub clean : (link : Link) (octets : List ℕ) (told : List Part)
      → AreUpdateParts link link.sent octets told
      → IsClean link octets ↔ ((length octets ≤ most_octets link) × (told ≡ []))
  pub frame : (link : Link) (octets : List ℕ) (told : List Part)
      → AreUpdateParts link link.sent octets told
      → IsFrame (limit_with link.extended) octets → (told ≡ []) ↔ IsClean link octets
