-- UPDATEs whose objects are equal have the same octets.
use Rattle.std.proofs.Common.{◌≡◌, ◌∙◌, ◌++◌, ℕ, Bool, true, false, List, [], ◌∷◌, All, None, append-nil, bytes_eq, codes, drop, length, refl, sym, ap, ap₂, subst}
use Rattle.std.specs.List.{flat_map}
use Rattle.std.proofs.lemmas.Bool.{and_parts}
use Rattle.std.proofs.lemmas.Slice.Eq.{bytes_eq-Decides}
use Rattle.std.proofs.lemmas.List.{drop_at, take_at}
use Rattle.std.proofs.lemmas.List.Elements.{All-cons, All-drop, All-head, All-nil, All-tail, All-take}
use Rattle.byteorder.specs.Endian.{big_bytes}
use Rattle.json.specs.Json.{Json}
use Rattle.bgp_prefix.specs.declared.family.Family.TheVariants as families
use Rattle.bgp_wire.specs.Message.{message_octets}
use Rattle.bgp_wire.specs.Octets.{AreOctets}
use Rattle.bgp_wire.proofs.HeaderAndBody.{message_is_header_and_body}
use Rattle.bgp_attr.specs.Field.{Attribute, attribute_octets, length_octets}
use Rattle.bgp_attr.specs.Split.{Split, attributes_of, rest_of, split_of, tail_at}
use Rattle.bgp_attr.proofs.OneField.{is_field}
use Rattle.bgp_update.specs.Destinations.{is_identified}
use Rattle.bgp_update.specs.Parts.{SpellsParts, UpdateParts}
use Rattle.bgp_update.specs.Sections.{IsUpdate, Sections, section_octets}
use Rattle.bgp_update.specs.declared.destination.Destination.{Destination}
use Rattle.bgp_values.specs.declared.opens.Reading.{Reading}
use Rattle.bgp_json_values.specs.AttributeJson.{attribute_json}
use Rattle.bgp_json_values.specs.RoutesJson.{destinations_json, spelled_destinations}
use Rattle.bgp_json.specs.MessageJson.{are_lists_spelled, nlri_field, octets_unless, paths_members, update_members, withdrawn_field}
use Rattle.bgp_json.proofs.UpdateFields.{lists}
use Rattle.bgp_json_laws.specs.Laws.{IsAttribute}
use Rattle.bgp_json_laws.proofs.Attributes.{same_attribute}
use Rattle.bgp_json_laws.proofs.Destinations.{IsRead, each_read, same_identified, same_plain}
use Rattle.bgp_json_laws.proofs.Lists.{lists_equal}
use Rattle.bgp_json_laws.proofs.Lookups.{not_valued, of_key, value_at}
use Rattle.bgp_json_laws.proofs.Spellings.{same_unless}
use Rattle.bgp_json_laws.proofs.Texts.{IsOctet, bytes_of}

-- ---- the parts are octets

-- of two lists, one after the other
pub front_are : (xs ys : List ℕ) → AreOctets (xs ++ ys) → AreOctets xs
front_are xs ys are = subst AreOctets (take_at xs ys (length xs) refl) (All-take IsOctet (length xs) (xs ++ ys) are)

pub back_are : (xs ys : List ℕ) → AreOctets (xs ++ ys) → AreOctets ys
back_are xs ys are = subst AreOctets (drop_at xs ys (length xs) refl) (All-drop IsOctet (length xs) (xs ++ ys) are)

one_attribute : (a : Attribute) → AreOctets (attribute_octets a) → IsAttribute a
one_attribute a are =
    let behind = All-tail IsOctet a.flags (a.kind ∷ big_bytes (length_octets a.flags) (length a.value) ++ a.value) are in
    let value = All-tail IsOctet a.kind (big_bytes (length_octets a.flags) (length a.value) ++ a.value) behind in
    record {
      flags = All-head IsOctet a.flags (a.kind ∷ big_bytes (length_octets a.flags) (length a.value) ++ a.value) are;
      kind = All-head IsOctet a.kind (big_bytes (length_octets a.flags) (length a.value) ++ a.value) behind;
      value = back_are (big_bytes (length_octets a.flags) (length a.value)) a.value value;
    }

pub each_attribute : (attributes : List Attribute) → AreOctets (flat_map attribute_octets attributes) → All IsAttribute attributes
each_attribute [] are = All-nil IsAttribute
each_attribute (a ∷ attributes) are =
    All-cons IsAttribute a attributes (one_attribute a (front_are (attribute_octets a) (flat_map attribute_octets attributes) are))
    (each_attribute attributes (back_are (attribute_octets a) (flat_map attribute_octets attributes) are))

-- a field with nothing behind its last attribute is its attributes
pub whole_field : (field : List ℕ) (attributes : List Attribute) → AreOctets field → split_of field ≡ record { attributes = attributes; tail = None }
    → field ≡ flat_map attribute_octets attributes
whole_field field attributes are e =
    let is = is_field field (bytes_of field are) in
    let none : tail_at (rest_of field) ≡ None = ap (λ (s : Split). s.tail) e in
    let last : is.rest ≡ [] = rw none at is.last in
    let list : attributes_of field ≡ attributes = ap (λ (s : Split). s.attributes) e in
    is.whole ∙ ap₂ (λ (them : List Attribute) (rest : List ℕ). flat_map attribute_octets them ++ rest) list last ∙ append-nil (flat_map attribute_octets attributes)

-- ---- the fields of an UPDATE

section_are : (s : Sections) → AreOctets (section_octets s) → AreOctets s.withdrawn × AreOctets s.attributes × AreOctets s.nlri
section_are s are =
    let first = back_are (big_bytes 2 (length s.withdrawn)) (s.withdrawn ++ (big_bytes 2 (length s.attributes) ++ (s.attributes ++ s.nlri))) are in
    let second = back_are s.withdrawn (big_bytes 2 (length s.attributes) ++ (s.attributes ++ s.nlri)) first in
    let third = back_are (big_bytes 2 (length s.attributes)) (s.attributes ++ s.nlri) second in
    (front_are s.withdrawn (big_bytes 2 (length s.attributes) ++ (s.attributes ++ s.nlri)) first, front_are s.attributes s.nlri third, back_are s.attributes s.nlri third)

pub sections_are : (octets : List ℕ) (s : Sections) → AreOctets octets → IsUpdate octets s → AreOctets s.withdrawn × AreOctets s.attributes × AreOctets s.nlri
sections_are octets s are update = section_are s (subst AreOctets update.body (All-drop IsOctet 19 octets are))

abbrev sections_with : List ℕ → List ℕ → List ℕ → Sections
sections_with withdrawn attributes nlri = record { withdrawn = withdrawn; attributes = attributes; nlri = nlri }

written : (octets : List ℕ) (s : Sections) → AreOctets octets → IsUpdate octets s
    → octets ≡ message_octets 2 (section_octets (sections_with s.withdrawn s.attributes s.nlri))
written octets s are update = message_is_header_and_body 2 octets are update.message ∙ ap (message_octets 2) update.body

-- ---- its own two lists

-- nothing, or octets
no_paths : (is_spelled : Bool) (octets : List ℕ) (withdrawn nlri : List Destination) (rest : List (List ℕ × Json))
    → paths_members true withdrawn nlri ++ rest ≡ octets_unless is_spelled octets → ⊥
no_paths true octets withdrawn nlri rest e = not_valued (codes "paths") [] (paths_members true withdrawn nlri ++ rest) _ (sym e) refl refl
no_paths false octets withdrawn nlri rest e = not_valued (codes "paths") (octets_unless false octets) (paths_members true withdrawn nlri ++ rest) _ (sym e) refl refl

-- what stands behind the parts
record Behind (identified also : Bool) (withdrawn nlri others announced : List Destination) (rest another : List (List ℕ × Json)) : Type 0 where
  lists : (withdrawn ≡ others) × (nlri ≡ announced)
  behind : rest ≡ another

same_behind : (identified also : Bool) (withdrawn nlri others announced : List Destination) (x y : Bool) (octets elsewhere : List ℕ)
    → All (IsRead identified) withdrawn → All (IsRead also) others → All (IsRead identified) nlri → All (IsRead also) announced
    → destinations_json withdrawn ≡ destinations_json others → destinations_json nlri ≡ destinations_json announced
    → paths_members identified withdrawn nlri ++ octets_unless x octets ≡ paths_members also others announced ++ octets_unless y elsewhere
    → Behind identified also withdrawn nlri others announced (octets_unless x octets) (octets_unless y elsewhere)
same_behind true true withdrawn nlri others announced x y octets elsewhere all too every each first second e =
    let paths = ap (of_key (codes "paths")) e in record {
      lists = (same_identified withdrawn others all too first (ap (value_at (codes "withdrawn")) paths), same_identified nlri announced every each second (ap (value_at (codes "nlri")) paths));
      behind = ap (drop 1) e;
    }
same_behind true false withdrawn nlri others announced x y octets elsewhere all too every each first second e =
    absurd (no_paths y elsewhere withdrawn nlri (octets_unless x octets) e)
same_behind false true withdrawn nlri others announced x y octets elsewhere all too every each first second e =
    absurd (no_paths x octets others announced (octets_unless y elsewhere) (sym e))
same_behind false false withdrawn nlri others announced x y octets elsewhere all too every each first second e = record {
  lists = (same_plain withdrawn others all too first, same_plain nlri announced every each second);
  behind = e;
}

-- a list that its destinations spell
spelled_list : (octets : List ℕ) (s : Sections) (withdrawn nlri : List Destination) → IsUpdate octets s → are_lists_spelled withdrawn nlri octets ≡ true
    → (s.withdrawn ≡ spelled_destinations withdrawn) × (s.nlri ≡ spelled_destinations nlri)
spelled_list octets s withdrawn nlri update spelled =
    let fields = lists octets s update in
    let both = and_parts (bytes_eq (spelled_destinations withdrawn) (withdrawn_field octets)) (bytes_eq (spelled_destinations nlri) (nlri_field octets)) spelled in (
      sym ((bytes_eq-Decides (spelled_destinations withdrawn) (withdrawn_field octets)).0 both.0 ∙ fields.0),
      sym ((bytes_eq-Decides (spelled_destinations nlri) (nlri_field octets)).0 both.1 ∙ fields.1),
    )

-- ---- the whole of it

pub same_update : (reading other : Reading) (octets others : List ℕ) (parts also : UpdateParts) → AreOctets octets → AreOctets others
    → SpellsParts reading.form octets parts → SpellsParts other.form others also
    → update_members reading parts octets ≡ update_members other also others → octets ≡ others
same_update reading other octets others parts also are too says said e =
    let s = says.sections in
    let t = said.sections in
    let fields = sections_are octets s are says.update in
    let fields' = sections_are others t too said.update in
    let list : s.attributes ≡ flat_map attribute_octets parts.attributes = whole_field s.attributes parts.attributes fields.1 says.attributes in
    let list' : t.attributes ≡ flat_map attribute_octets also.attributes = whole_field t.attributes also.attributes fields'.1 said.attributes in
    let each = each_attribute parts.attributes (subst AreOctets list fields.1) in
    let each' = each_attribute also.attributes (subst AreOctets list' fields'.1) in
    let attributes = lists_equal (attribute_json reading) (attribute_json other) IsAttribute IsAttribute (same_attribute reading other) parts.attributes also.attributes each each' (ap (of_key (codes "attributes")) e) in
    let own = is_identified reading.form families.V4 in
    let own' = is_identified other.form families.V4 in
    let behind = same_behind own own' parts.withdrawn parts.nlri also.withdrawn also.nlri
    (are_lists_spelled parts.withdrawn parts.nlri octets) (are_lists_spelled also.withdrawn also.nlri others) octets others
    (each_read own families.V4 s.withdrawn parts.withdrawn fields.0 says.withdrawn) (each_read own' families.V4 t.withdrawn also.withdrawn fields'.0 said.withdrawn)
    (each_read own families.V4 s.nlri parts.nlri fields.2 says.nlri) (each_read own' families.V4 t.nlri also.nlri fields'.2 said.nlri)
    (ap (of_key (codes "withdrawn")) e) (ap (of_key (codes "nlri")) e) (ap (drop 3) e) in
    same_unless (are_lists_spelled parts.withdrawn parts.nlri octets) (are_lists_spelled also.withdrawn also.nlri others) octets others are too
    (λ first second.
    let spelled = spelled_list octets s parts.withdrawn parts.nlri says.update first in
    let spelled' = spelled_list others t also.withdrawn also.nlri said.update second in
    let withdrawn : s.withdrawn ≡ t.withdrawn = spelled.0 ∙ ap spelled_destinations behind.lists.0 ∙ sym spelled'.0 in
    let nlri : s.nlri ≡ t.nlri = spelled.1 ∙ ap spelled_destinations behind.lists.1 ∙ sym spelled'.1 in
    let field : s.attributes ≡ t.attributes = list ∙ ap (flat_map attribute_octets) attributes ∙ sym list' in
    let same : message_octets 2 (section_octets (sections_with s.withdrawn s.attributes s.nlri)) ≡ message_octets 2 (section_octets (sections_with t.withdrawn t.attributes t.nlri)) =
    rw (withdrawn, nlri, field) refl in
    written octets s are says.update ∙ same ∙ sym (written others t too said.update))
    behind.behind
