-- The attribute field read from its front: the one list of attributes, and the one tail, that
-- `Field` speaks of, as functions of the octets.
use Rattle.std.specs.Prelude.{◌≡◌, ℕ, zero, suc, ◌+◌, ◌==◌, nat_lt, if◌then◌else◌, List, [], ◌∷◌}
use Rattle.std.specs.Prelude.{length, take, drop, slice_index, Option, None, Some}
use Rattle.bgp_attr.specs.declared.field.Attr.{Attr}
use Rattle.bgp_attr.specs.declared.field.Tail.{Tail}
use Rattle.bgp_attr.specs.declared.field.Tail.TheVariants.{ShortHeader, Overrun}
use Rattle.bgp_attr.specs.Field.{Attribute, attribute_of, IsAttributeField, header_len, value_len}

-- how many octets an attribute takes that begins so; where its header isn't whole, more than there
-- are
abbrev pub attribute_len : List ℕ → ℕ
attribute_len octets = header_len octets + value_len octets

-- the attribute at the front
abbrev pub first_attribute : List ℕ → Attribute
first_attribute octets = record {
  flags = slice_index octets 0;
  kind = slice_index octets 1;
  value = take (value_len octets) (drop (header_len octets) octets);
}

-- the attributes at the front, at most n of them, and the octets after them
abbrev pub attributes_in : ℕ → List ℕ → List Attribute
attributes_in zero octets = []
attributes_in (suc n) octets =
    if nat_lt (length octets) (attribute_len octets)
    then []
    else first_attribute octets ∷ attributes_in n (drop (attribute_len octets) octets)

abbrev pub rest_in : ℕ → List ℕ → List ℕ
rest_in zero octets = octets
rest_in (suc n) octets =
    if nat_lt (length octets) (attribute_len octets)
    then octets
    else rest_in n (drop (attribute_len octets) octets)

-- all attributes of a field: it has no more of them than octets
unfoldable pub attributes_of : List ℕ → List Attribute
attributes_of field = attributes_in (length field) field

-- what follows the last of them
unfoldable pub rest_of : List ℕ → List ℕ
rest_of field = rest_in (length field) field

-- which tail the octets after the last attribute are
unfoldable pub tail_at : List ℕ → Option Tail
tail_at rest =
    if length rest == 0
    then None
    else (if nat_lt (length rest) (header_len rest)
    then Some ShortHeader
    else Some (Overrun (slice_index rest 1)))

-- a field as its attributes and its tail
pub record Split : Type 0 where
  pub attributes : List Attribute
  pub tail : Option Tail

abbrev pub split_of : List ℕ → Split
split_of field = record { attributes = attributes_of field; tail = tail_at (rest_of field) }

-- a call of `next` gave the first attribute that was left, and left the others and the tail
abbrev pub GivesFirst : Split → Option Attr → Split → Type 0
GivesFirst old None new = (old.attributes ≡ []) × (new ≡ old)
GivesFirst old (Some attr) new =
    (old.attributes ≡ attribute_of attr ∷ new.attributes) × (new.tail ≡ old.tail)

-- what spells a field is what these functions read
abbrev pub ReadsWhatIsSpelled : Type 0
ReadsWhatIsSpelled =
    (field : List ℕ) (attributes : List Attribute) (tail : Option Tail)
    → IsAttributeField field attributes tail
    → split_of field ≡ record { attributes = attributes; tail = tail }
