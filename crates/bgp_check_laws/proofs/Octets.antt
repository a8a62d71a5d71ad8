-- What the impossible record lacks has octets, if the records have.
use Rattle.std.proofs.Common.{◌≡◌, ◌<◌, ◌++◌, ◌&&◌, ◌||◌, ℕ, zero, suc, Bool, true, false, not, List, [], ◌∷◌, All, Option, None, Some, MatchOption, arith, get_or, if◌then◌else◌, map, subst, sym, inl, inr}
use Rattle.std.specs.List.{flat_map}
use Rattle.std.specs.Prelude.{IsSomeAnd, is_none, is_some}
use Rattle.std.proofs.lemmas.List.Elements.{All-append, All-cons, All-head, All-nil, All-tail, All-take}
use Rattle.bgp_prefix.specs.Shown.{ShownRecord, Received, Sent, Changed}
use Rattle.bgp_wire.specs.Header.{header_of, type_of}
use Rattle.bgp_wire.specs.Octets.{AreOctets}
use Rattle.bgp_prefix.specs.declared.family.Family.TheVariants.{V4}
use Rattle.bgp_open.specs.Families.{contains}
use Rattle.bgp_open.specs.declared.config.Config.{Config}
use Rattle.bgp_open.specs.declared.link.Link.{Link}
use Rattle.bgp_open.specs.declared.route_form.RouteForm.{RouteForm}
use Rattle.bgp_attr.specs.declared.field.Tail.{Tail}
use Rattle.bgp_attr.specs.declared.field.Tail.TheVariants as tails
use Rattle.bgp_attr.specs.Field.{Attribute, attribute_octets}
use Rattle.bgp_attr.specs.First.{first_of}
use Rattle.bgp_attr.specs.Split.{attributes_of, rest_of, tail_at}
use Rattle.bgp_attr.specs.declared.types.AttrType.TheVariants as types
use Rattle.bgp_attr.proofs.OneField.{is_field}
use Rattle.bgp_update.specs.Found.{is_repeated}
use Rattle.bgp_update.specs.Sections.{Sections}
use Rattle.bgp_parts.specs.AttributeFaults.{first_faults}
use Rattle.bgp_parts.specs.NotificationParts.{IsPart}
use Rattle.bgp_parts.specs.UpdateParts.{Part, LengthsRunOver, WithdrawnMalformed, NlriMalformed, Faulty, AttributesCut, Overrun, Missing, BaseNotInUse, AreUpdateParts, attribute_parts, base_list, base_parts, has_destinations, is_absent, is_filled, missing_parts, part_if, parts_after, section_parts, tail_parts}
use Rattle.bgp_parts.specs.declared.attribute.AttributeFault.{AttributeFault}
use Rattle.bgp_parts.specs.declared.attribute.AttributeFault.TheVariants.{Repeated}
use Rattle.bgp_parts.specs.declared.notification.NotificationPart.{NotificationPart}
use Rattle.bgp_parts.specs.declared.notification.NotificationPart.TheVariants.{Subcode, Data}
use Rattle.bgp_reason.specs.Asked.{AreAsked}
use Rattle.bgp_reason.specs.Told.{last_from, last_message}
use Rattle.bgp_reason.specs.declared.kinds.Possible.{Possible}
use Rattle.bgp_explain.specs.Lacked.{Lacked, Nothing, Open, Update, Notification, RecordLacks}
use Rattle.bgp_json_laws.specs.Laws.{IsAttribute}
use Rattle.bgp_json_laws.proofs.Messages.{codes_of}
use Rattle.bgp_json_laws.proofs.Texts.{IsOctet, bytes_of}
use Rattle.bgp_json_laws.proofs.Updates.{each_attribute, front_are, sections_are}
use Rattle.bgp_visible_laws.specs.Laws as shown
use Rattle.bgp_why_laws.specs.Octets.{HasOctets, IsOctetIfAny, IsWord}

-- what is an octet on the wire is one, in what the impossible record lacks
abbrev pub HasOctetsIn : Lacked → Type 0
HasOctetsIn Nothing = Unit {0}
HasOctetsIn (Open parts) = Unit {0}
HasOctetsIn (Update parts) = All HasOctets parts
HasOctetsIn (Notification code parts) = IsWord parts.part

-- ---- the message that was received last

pub last_are : (last : List ℕ) (records : List ShownRecord) → AreOctets last → All shown.HasOctets records → AreOctets (last_from last records)
last_are last [] are all = are
last_are last (Received second octets ∷ records) are all =
    last_are octets records (All-head shown.HasOctets (Received second octets) records all) (All-tail shown.HasOctets (Received second octets) records all)
last_are last (Sent second octets ∷ records) are all = last_are last records are (All-tail shown.HasOctets (Sent second octets) records all)
last_are last (Changed second old new ∷ records) are all = last_are last records are (All-tail shown.HasOctets (Changed second old new) records all)

octet_at : (xs : List ℕ) → AreOctets xs → (i : ℕ) → get_or xs i 0 < 256
octet_at [] are i = omega arith
octet_at (x ∷ xs) are i =
    let first : x < 256 = All-head IsOctet x xs are in
    let later = octet_at xs (All-tail IsOctet x xs are) in
    elim i as (λ j. get_or (x ∷ xs) j 0 < 256) [ zero ↦ first | suc j ↦ later j ]

kind_is : (A : Type 0) (B : ℕ → Type 0) (kind : Option ℕ) (last : List ℕ) → AreOctets last → MatchOption kind A (λ k. (k ≡ type_of (header_of last)) × B k) → IsOctetIfAny kind
unfolding type_of
kind_is A B None last are m = tt
kind_is A B (Some k) last are m = subst (λ (n : ℕ). n < 256) (sym m.0) (octet_at (header_of last) (All-take IsOctet 19 last are) 18)

pub header_is : (config : Config) (before : List ShownRecord) (possible : Possible) → All shown.HasOctets before → AreAsked config before possible
    → IsOctetIfAny possible.header_errors.kind
header_is config before possible all asked =
    kind_is _ _ possible.header_errors.kind (last_message before) (last_are [] before (All-nil IsOctet) all) asked.header_errors.bad_type

-- ---- what an UPDATE lacks

if_part : (holds : Bool) (part : Part) → HasOctets part → All HasOctets (part_if holds part)
if_part true part has = All-cons HasOctets part [] has (All-nil HasOctets)
if_part false part has = All-nil HasOctets

either : (is_so : Bool) (parts others : List Part) → All HasOctets parts → All HasOctets others → All HasOctets (if is_so then parts else others)
either true parts others first second = first
either false parts others first second = second

faulty : (a : Attribute) → AreOctets a.value → (faults : List AttributeFault) → All HasOctets (map (Faulty a) faults)
faulty a are [] = All-nil HasOctets
faulty a are (fault ∷ faults) = All-cons HasOctets (Faulty a fault) (map (Faulty a) faults) are (faulty a are faults)

after_are : (link : Link) (form : RouteForm) (before : List Attribute) (a : Attribute) → AreOctets a.value → All HasOctets (parts_after link form before a)
after_are link form before a value =
    let again = not (is_repeated a.kind before) in
    either (is_some (first_of a.kind before)) (part_if again (Faulty a Repeated)) (map (Faulty a) (first_faults link form a)) (if_part again (Faulty a Repeated) value)
    (faulty a value (first_faults link form a))

each_part : (link : Link) (form : RouteForm) (before attributes : List Attribute) → All IsAttribute attributes → All HasOctets (attribute_parts link form before attributes)
each_part link form before [] all = All-nil HasOctets
each_part link form before (a ∷ attributes) all =
    All-append HasOctets (parts_after link form before a) (attribute_parts link form (a ∷ before) attributes)
    (after_are link form before a (All-head IsAttribute a attributes all).value) (each_part link form (a ∷ before) attributes (All-tail IsAttribute a attributes all))

of_tail : (tail : Option Tail) → All HasOctets (tail_parts tail)
of_tail None = All-nil HasOctets
of_tail (Some tails.ShortHeader) = All-cons HasOctets AttributesCut [] tt (All-nil HasOctets)
of_tail (Some (tails.Overrun kind)) = All-cons HasOctets (Overrun kind) [] tt (All-nil HasOctets)

attributes_are : (field : List ℕ) → AreOctets field → All IsAttribute (attributes_of field)
attributes_are field are =
    let is = is_field field (bytes_of field are) in
    each_attribute (attributes_of field) (front_are (flat_map attribute_octets (attributes_of field)) is.rest (subst AreOctets is.whole are))

of_missing : (nlri : List ℕ) (attributes : List Attribute) → All HasOctets (missing_parts nlri attributes)
of_missing nlri attributes =
    let announces = is_filled nlri || not (is_absent attributes types.MpReachNlri) in
    let origin = is_absent attributes types.Origin && announces in
    let path = is_absent attributes types.AsPath && announces in
    let hop = is_absent attributes types.NextHop && is_filled nlri in
    All-append HasOctets (part_if origin (Missing types.Origin)) (part_if path (Missing types.AsPath) ++ part_if hop (Missing types.NextHop))
    (if_part origin (Missing types.Origin) tt)
    (All-append HasOctets (part_if path (Missing types.AsPath)) (part_if hop (Missing types.NextHop)) (if_part path (Missing types.AsPath) tt)
    (if_part hop (Missing types.NextHop) tt))

of_base : (link : Link) (form : RouteForm) (s : Sections) → All HasOctets (base_parts link form s)
of_base link form s = if_part (not (contains link.families V4) && (has_destinations form s.withdrawn || has_destinations form s.nlri)) BaseNotInUse tt

of_sections : (link : Link) (form : RouteForm) (s : Sections) → AreOctets s.attributes → All HasOctets (section_parts link form s)
of_sections link form s are =
    let withdrawn = is_none (base_list form s.withdrawn) in
    let nlri = is_none (base_list form s.nlri) in
    let all = attributes_of s.attributes in
    let each = attribute_parts link form [] all in
    let tail = tail_parts (tail_at (rest_of s.attributes)) in
    let last = missing_parts s.nlri all ++ base_parts link form s in
    All-append HasOctets (part_if withdrawn WithdrawnMalformed) (part_if nlri NlriMalformed ++ (each ++ (tail ++ last))) (if_part withdrawn WithdrawnMalformed tt)
    (All-append HasOctets (part_if nlri NlriMalformed) (each ++ (tail ++ last)) (if_part nlri NlriMalformed tt)
    (All-append HasOctets each (tail ++ last) (each_part link form [] all (attributes_are s.attributes are))
    (All-append HasOctets tail last (of_tail (tail_at (rest_of s.attributes)))
    (All-append HasOctets (missing_parts s.nlri all) (base_parts link form s) (of_missing s.nlri all) (of_base link form s)))))

pub of_update : (link : Link) (form : RouteForm) (octets : List ℕ) (parts : List Part) → AreOctets octets → AreUpdateParts link form octets parts → All HasOctets parts
of_update link form octets parts are (inl malformed) = subst (All HasOctets) (sym malformed.1) (All-cons HasOctets LengthsRunOver [] tt (All-nil HasOctets))
of_update link form octets parts are (inr told) = subst (All HasOctets) (sym told.2) (of_sections link form told.0 (sections_are octets told.0 are told.1).1)

on_link : (link : Option Link) (octets : List ℕ) (parts : List Part) → AreOctets octets → IsSomeAnd link (λ l. AreUpdateParts l l.sent octets parts) → All HasOctets parts
on_link None octets parts are told = absurd told
on_link (Some link) octets parts are told = of_update link link.sent octets parts are told

-- ---- what a NOTIFICATION lacks

of_word : (possible : Possible) (code subcode : ℕ) (detail : List ℕ) (part : Option NotificationPart) → AreOctets detail → IsPart possible code subcode detail part → IsWord part
of_word possible code subcode detail None are is = tt
of_word possible code subcode detail (Some (Subcode sent)) are is = tt
of_word possible code subcode detail (Some (Data sent)) are is = subst AreOctets (sym is.0) are

-- ---- what a record lacks

pub record_has : (config : Config) (link : Option Link) (possible : Possible) (its : ShownRecord) (lacked : Lacked) → shown.HasOctets its
    → RecordLacks config link possible its lacked → HasOctetsIn lacked
record_has config link possible (Received second octets) lacked are lacks = subst HasOctetsIn (sym lacks) tt
record_has config link possible (Changed second old new) lacked are lacks = subst HasOctetsIn (sym lacks) tt
record_has config link possible (Sent second octets) Nothing are lacks = tt
record_has config link possible (Sent second octets) (Open parts) are lacks = tt
record_has config link possible (Sent second octets) (Update parts) are lacks = on_link link octets parts are lacks.1
record_has config link possible (Sent second octets) (Notification code parts) are lacks =
    let told = lacks.2.1 in
    of_word possible told.code told.subcode told.detail parts.part (codes_of octets told.code told.subcode told.detail are told.is).2 told.part
