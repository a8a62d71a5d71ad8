-- Numbers in the objects of messages are in decimal.
use Rattle.std.proofs.Common.{◌≡◌, ◌++◌, ◌&&◌, ◌||◌, ◌==◌, ◌<◌, ◌^◌, ℕ, Bool, true, false, List, [], ◌∷◌, All, Option, Some, None, codes, if◌then◌else◌, length, slice_index, sym, subst, arith}
use Rattle.std.proofs.lemmas.Option.{cond_some, none-some, same_Some}
use Rattle.std.proofs.lemmas.List.Elements.{All-head, All-tail}
use Rattle.json.specs.Json.{Json}
use Rattle.bgp_prefix.specs.declared.family.Family.TheVariants as families
use Rattle.bgp_path.specs.declared.path.NextHop.{NextHop}
use Rattle.bgp_wire.specs.Octets.{AreOctets}
use Rattle.bgp_open.specs.Offer.{afi_of}
use Rattle.bgp_open.specs.Open.{OpenFields, open_of, parameters_of}
use Rattle.bgp_open.specs.OpenFault.{open_fault_number}
use Rattle.bgp_open.specs.declared.fault.OpenFault.{OpenFault}
use Rattle.bgp_open.specs.declared.fault.OpenFault.TheVariants.{Malformed, Version, Parameter}
use Rattle.bgp_open.specs.declared.route_form.RouteForm.{RouteForm}
use Rattle.bgp_attr.specs.Field.{Attribute}
use Rattle.bgp_attr.specs.Segments.{number_width}
use Rattle.bgp_update.specs.Destinations.{is_identified}
use Rattle.bgp_update.specs.Parts.{SpellsParts, UpdateParts}
use Rattle.bgp_update.specs.declared.destination.Destination.{Destination}
use Rattle.bgp_text.specs.Message.{Message, Says, open_message, malformed_open_message, update_message, malformed_update_message, notification_message, keepalive_message}
use Rattle.bgp_values.specs.AttributeValue.{AttributeValue, attribute_value}
use Rattle.bgp_values.specs.ErrorData.{DataValue, ErrorFields, cause_of, communication, communication_in, data_value, fields_in, maximum_in}
use Rattle.bgp_values.specs.RoutesValue.{RoutesValue, unicast, other, reach_value, unreach_value}
use Rattle.bgp_values.specs.declared.opens.Reading.{Reading}
use Rattle.bgp_lines.specs.MessageLine.{fields_of}
use Rattle.bgp_json_values.specs.AttributeJson.{attribute_json, attribute_members, attribute_value_json, plain_members, spelled_attribute, width_members, width_of_type}
use Rattle.bgp_json_values.specs.CapabilityJson.{capability_json}
use Rattle.bgp_json_values.specs.ErrorJson.{cause_members, data_members, error_members, plain_error_members}
use Rattle.bgp_json_values.specs.ItemJson.{family_members}
use Rattle.bgp_json_values.specs.Objects.{number_of}
use Rattle.bgp_json_values.specs.RoutesJson.{destination_json, destinations_json, hop_addresses, hop_members, ids_of, path_ids_json, path_ids_members, routes_json, spelled_routes}
use Rattle.bgp_json_values.specs.Texts.{address_json}
use Rattle.bgp_json.specs.MessageJson.{are_lists_spelled, are_parameters_spelled, octets_unless, open_members, paths_members, update_members}
use Rattle.bgp_json_laws.specs.Laws.{IsAttribute, IsTriplet}
use Rattle.bgp_json_laws.proofs.Decimals.{HasDecimals, HaveDecimals, of_array, of_both, of_number, of_object, of_texts, of_unless, of_value}
use Rattle.bgp_json_laws.proofs.Destinations.{Fits, IsRead, each_read, ids_fit}
use Rattle.bgp_json_laws.proofs.Items.{fits_big}
use Rattle.bgp_json_laws.proofs.Messages.{codes_of, members_of}
use Rattle.bgp_json_laws.proofs.Opens.{each_capability, fields_are, hold_fits, my_as_fits, parameters_are}
use Rattle.bgp_json_laws.proofs.Routes.{IsValue, afi_fits, reach_read, unreach_read}
use Rattle.bgp_json_laws.proofs.Texts.{IsOctet, bytes_of}
use Rattle.bgp_json_laws.proofs.Updates.{each_attribute, sections_are, whole_field}
use Rattle.bgp_json_laws.proofs.ValueDecimals.{of_capability, says_value}

-- ---- routes

of_destinations : (ds : List Destination) → HasDecimals (destinations_json ds)
of_destinations ds = of_texts destination_json (λ d. tt) ds

of_ids : (ds : List Destination) → All (IsRead true) ds → HasDecimals (path_ids_json ds)
of_ids ds all = of_array number_of Fits of_number (ids_of ds) (ids_fit ds all)

of_paths : (identified : Bool) (ds : List Destination) → All (IsRead identified) ds → HaveDecimals (path_ids_members identified ds)
of_paths true ds all = (of_ids ds all, tt)
of_paths false ds all = tt

of_hop : (hop : Option NextHop) → HaveDecimals (hop_members hop)
of_hop None = tt
of_hop (Some hop) = (of_texts address_json (λ a. tt) (hop_addresses hop), tt)

of_routes : (announced : Bool) (name : List ℕ) (form : RouteForm) (a : RoutesValue) → IsValue announced form a → HasDecimals (routes_json name form a)
of_routes announced name form (unicast family contents) is =
    of_object (family_members (afi_of family) 1 ++ (hop_members contents.next_hop ++ (name, destinations_json contents.destinations) ∷ path_ids_members (is_identified form family) contents.destinations)) (
      of_number (afi_of family) (afi_fits family),
      (
        of_number 1 (omega arith),
        of_both (hop_members contents.next_hop) ((name, destinations_json contents.destinations) ∷ path_ids_members (is_identified form family) contents.destinations)
            (of_hop contents.next_hop) (of_destinations contents.destinations, of_paths (is_identified form family) contents.destinations is.0),
      ),
    )
of_routes announced name form (other afi safi octets) is = (of_number afi is.0, (of_number safi is.1, (tt, tt)))

-- ---- attributes

of_width : (is_so as4 : Bool) → HaveDecimals (if is_so then (codes "width", number_of (number_width as4)) ∷ [] else [])
of_width true true = (of_number 4 (omega arith), tt)
of_width true false = (of_number 2 (omega arith), tt)
of_width false as4 = tt

of_widths : (as4 : Bool) (kind : ℕ) (v : Option AttributeValue) → HaveDecimals (width_members as4 kind v)
of_widths as4 kind None = tt
of_widths as4 kind (Some value) = of_width ((kind == 2) || (kind == 7)) as4

of_plain : (as4 : Bool) (kind : ℕ) (octets : List ℕ) → AreOctets octets → HaveDecimals (plain_members as4 kind octets (attribute_value as4 kind octets))
of_plain as4 kind octets are =
    of_both (width_members as4 kind (attribute_value as4 kind octets)) _ (of_widths as4 kind (attribute_value as4 kind octets))
    (of_value attribute_value_json (spelled_attribute (width_of_type as4 kind)) (attribute_value as4 kind octets) octets (λ a e. says_value as4 kind octets a are e))

of_either : (reach unreach : Bool) (first second third : List (List ℕ × Json)) → HaveDecimals first → HaveDecimals second → HaveDecimals third
    → HaveDecimals (if reach then first else if unreach then second else third)
of_either true unreach first second third a b c = a
of_either false true first second third a b c = b
of_either false false first second third a b c = c

of_attribute : (reading : Reading) (a : Attribute) → IsAttribute a → HasDecimals (attribute_json reading a)
of_attribute reading a is =
    let kind = is.kind in
    let flags = is.flags in
    of_object (attribute_members reading a) (
      of_number a.kind (omega (arith, kind)),
      (
        tt,
        (
          of_number a.flags (omega (arith, flags)),
          of_either (a.kind == 14) (a.kind == 15) _ _ _
              (of_value (routes_json (codes "nlri") reading.form) spelled_routes (reach_value reading.form a.value) a.value
              (λ v e. of_routes true (codes "nlri") reading.form v (reach_read reading.form a.value v is.value e)))
              (of_value (routes_json (codes "withdrawn") reading.form) spelled_routes (unreach_value reading.form a.value) a.value
              (λ v e. of_routes false (codes "withdrawn") reading.form v (unreach_read reading.form a.value v is.value e)))
              (of_plain reading.as4 a.kind a.value is.value),
        ),
      ),
    )

-- ---- errors

abbrev AreError : ErrorFields → Type 0
AreError e = (e.code < 256) × (e.subcode < 256) × AreOctets e.detail

of_data : (v : Option DataValue) → ((a : DataValue) → v ≡ Some a → HaveDecimals (data_members (Some a))) → HaveDecimals (data_members v)
of_data None each = tt
of_data (Some a) each = each a (λ i. Some a)

abbrev Shows : (List ℕ → Option DataValue) → Type 0
Shows read = (octets : List ℕ) (a : DataValue) → AreOctets octets → read octets ≡ Some a → HaveDecimals (data_members (Some a))

shows_communication : Shows communication_in
shows_communication [] a are e = absurd (none-some a e)
shows_communication (count ∷ text) a are e =
    subst (λ (v : DataValue). HaveDecimals (data_members (Some v))) (cond_some _ (communication text) a e).1 (tt, tt)

shows_maximum : Shows maximum_in
shows_maximum octets a are e =
    let small = bytes_of octets are 2 in
    subst (λ (v : DataValue). HaveDecimals (data_members (Some v))) (cond_some (length octets == 7) _ a e).1
    ((of_number _ (fits_big 2 0 octets are (omega arith)), (of_number (slice_index octets 2) (omega (arith, small)), (of_number _ (fits_big 4 3 octets are (omega arith)), tt))), tt)

shows_none : Shows (λ octets. None)
shows_none octets a are e = absurd (none-some a e)

shows_either : (test : Bool) (first second : List ℕ → Option DataValue) → Shows first → Shows second → Shows (λ octets. if test then first octets else second octets)
shows_either true first second F S = F
shows_either false first second F S = S

shows_value : (code subcode : ℕ) → Shows (λ octets. data_value record { code = code; subcode = subcode; detail = octets })
shows_value code subcode =
    shows_either (code == 6) _ _
    (shows_either (subcode == 1) maximum_in _ shows_maximum (shows_either ((subcode == 2) || (subcode == 4)) communication_in _ shows_communication shows_none)) shows_none

of_plain_error : (e : ErrorFields) → AreError e → HaveDecimals (plain_error_members e)
of_plain_error e is =
    let code = is.0 in
    let subcode = is.1 in (
      of_number e.code (omega (arith, code)),
      (
        of_number e.subcode (omega (arith, subcode)),
        (
          tt,
          (
            tt,
            of_data (data_value e) (λ a found. shows_value e.code e.subcode e.detail a is.2 found),
          ),
        ),
      ),
    )

fields_read : (octets : List ℕ) (cause : ErrorFields) → AreOctets octets → fields_in octets ≡ Some cause → AreError cause
fields_read [] cause are e = absurd (none-some cause e)
fields_read (code ∷ []) cause are e = absurd (none-some cause e)
fields_read (code ∷ subcode ∷ detail) cause are e =
    let behind = All-tail IsOctet code (subcode ∷ detail) are in
    subst AreError (same_Some _ cause e) (All-head IsOctet code (subcode ∷ detail) are, All-head IsOctet subcode detail behind, All-tail IsOctet subcode detail behind)

of_cause : (cause : Option ErrorFields) → ((c : ErrorFields) → cause ≡ Some c → AreError c) → HaveDecimals (cause_members cause)
of_cause None each = tt
of_cause (Some cause) each = (of_object (plain_error_members cause) (of_plain_error cause (each cause (λ i. Some cause))), tt)

cause_read : (test : Bool) (octets : List ℕ) (cause : ErrorFields) → AreOctets octets → (if test then fields_in octets else None) ≡ Some cause → AreError cause
cause_read true octets cause are e = fields_read octets cause are e
cause_read false octets cause are e = absurd (none-some cause e)

pub of_error : (e : ErrorFields) → AreError e → HaveDecimals (error_members e)
of_error e is =
    of_both (plain_error_members e) (cause_members (cause_of e)) (of_plain_error e is)
    (of_cause (cause_of e) (λ cause found. cause_read ((e.code == 6) && (e.subcode == 9)) e.detail cause is.2 found))

-- ---- messages

of_open : (octets : List ℕ) → AreOctets octets → HaveDecimals (open_members (open_of octets))
of_open octets are =
    let fields = fields_are octets are in (
      of_number _ (my_as_fits _ fields),
      (
        of_number _ (hold_fits _ fields),
        (
          tt,
          (of_array capability_json IsTriplet of_capability (open_of octets).capabilities (each_capability (parameters_of octets) (parameters_are octets are)), tt),
        ),
      ),
    )

fault_fits : (fault : OpenFault) → open_fault_number fault < 2 ^ 64
fault_fits Malformed = omega arith
fault_fits Version = omega arith
fault_fits Parameter = omega arith

of_list_paths : (identified : Bool) (withdrawn nlri : List Destination) → All (IsRead identified) withdrawn → All (IsRead identified) nlri → HaveDecimals (paths_members identified withdrawn nlri)
of_list_paths true withdrawn nlri all each = ((of_ids withdrawn all, (of_ids nlri each, tt)), tt)
of_list_paths false withdrawn nlri all each = tt

of_update : (reading : Reading) (octets : List ℕ) (parts : UpdateParts) → AreOctets octets → SpellsParts reading.form octets parts → HaveDecimals (update_members reading parts octets)
of_update reading octets parts are says =
    let s = says.sections in
    let fields = sections_are octets s are says.update in
    let own = is_identified reading.form families.V4 in
    let each = each_attribute parts.attributes (subst AreOctets (whole_field s.attributes parts.attributes fields.1 says.attributes) fields.1) in
    let spelled = are_lists_spelled parts.withdrawn parts.nlri octets in (
      of_destinations parts.withdrawn,
      (
        of_array (attribute_json reading) IsAttribute (of_attribute reading) parts.attributes each,
        (
          of_destinations parts.nlri,
          of_both (paths_members own parts.withdrawn parts.nlri) (octets_unless spelled octets)
              (of_list_paths own parts.withdrawn parts.nlri (each_read own families.V4 s.withdrawn parts.withdrawn fields.0 says.withdrawn) (each_read own families.V4 s.nlri parts.nlri fields.2 says.nlri))
              (of_unless spelled octets),
        ),
      ),
    )

pub of_members : (reading : Reading) (octets : List ℕ) (message : Message) → AreOctets octets → Says reading.form octets message → HaveDecimals (members_of reading octets message)
of_members reading octets (open_message fields) are says =
    subst (λ (f : OpenFields). HaveDecimals (members_of reading octets (open_message f))) (sym says.2)
    (of_both (open_members (open_of octets)) _ (of_open octets are) (of_unless (are_parameters_spelled (open_of octets).capabilities (parameters_of octets)) octets))
of_members reading octets (malformed_open_message fault) are says = (of_number (open_fault_number fault) (fault_fits fault), (tt, (tt, tt)))
of_members reading octets (update_message parts) are says = of_update reading octets parts are says.1
of_members reading octets malformed_update_message are says = (tt, tt)
of_members reading octets (notification_message code subcode detail) are says = of_error (fields_of code subcode detail) (codes_of octets code subcode detail are says.1)
of_members reading octets keepalive_message are says = tt
