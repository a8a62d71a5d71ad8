-- Messages have no control characters in words.
use Rattle.std.proofs.Common.{◌≡◌, ◌++◌, ◌==◌, ◌&&◌, ℕ, Bool, true, false, List, [], ◌∷◌, Option, None, Some, All, codes, drop, if◌then◌else◌, length, map, refl, slice_index, subst, sym}
use Rattle.std.proofs.lemmas.Bool.{and_parts}
use Rattle.std.proofs.lemmas.List.Elements.{All-append, All-cons, All-drop, All-head, All-nil, All-tail}
use Rattle.std.proofs.lemmas.Option.{cond_some, none-some, same_Some}
use Rattle.byteorder.specs.Endian.{big_number}
use Rattle.bgp_prefix.specs.declared.address.Address.TheVariants.{V4}
use Rattle.bgp_wire.specs.Message.{body_of}
use Rattle.bgp_wire.specs.Octets.{AreOctets}
use Rattle.bgp_open.specs.Open.{OpenFields, open_of, parameters_of}
use Rattle.bgp_open.specs.OpenFault.{open_fault_number}
use Rattle.bgp_open.specs.declared.fault.OpenFault.{OpenFault}
use Rattle.bgp_open.specs.declared.fault.OpenFault.TheVariants.{Malformed, Version, Parameter}
use Rattle.bgp_attr.specs.Field.{Attribute}
use Rattle.bgp_update.specs.Parts.{SpellsParts, UpdateParts}
use Rattle.bgp_update.specs.declared.destination.Destination.{Destination}
use Rattle.bgp_text.specs.Message.{Message, Says, open_message, malformed_open_message, update_message, malformed_update_message, notification_message, keepalive_message}
use Rattle.bgp_text.specs.Text.{destinations_text}
use Rattle.bgp_values.specs.ErrorData.{DataValue, ErrorFields, cause_of, communication, communication_in, data_value, fields_in, maximum, maximum_in}
use Rattle.bgp_values.specs.Readable.{is_readable}
use Rattle.bgp_values.specs.declared.opens.Reading.{Reading}
use Rattle.bgp_lines.specs.MessageLine.{fields_of, named_text}
use Rattle.bgp_lines.specs.Notifications.{codes_text, data_text, detail_text, error_text, hidden_text, named_notification, plain_error_text}
use Rattle.bgp_lines.specs.OpenLine.{named_capability, named_malformed_open, named_open, open_fault_name}
use Rattle.bgp_lines.specs.UpdateLine.{FamilyNumbers, destinations_part, ended_by, itself, named_attribute, named_update, parts_texts, update_body}
use Rattle.bgp_json_laws.specs.Laws.{IsAttribute, IsTriplet}
use Rattle.bgp_json_laws.proofs.Messages.{codes_of}
use Rattle.bgp_json_laws.proofs.Opens.{each_capability, parameters_are}
use Rattle.bgp_json_laws.proofs.Texts.{IsOctet}
use Rattle.bgp_json_laws.proofs.Updates.{each_attribute, sections_are, whole_field}
use Rattle.bgp_visible_laws.specs.Visible.{IsVisible}
use Rattle.bgp_visible_laws.proofs.Texts.{address_visible, decimal_visible, destinations_visible, encoded_visible, error_visible, family_visible, hex_visible, subcode_visible}
use Rattle.bgp_visible_laws.proofs.Values.{attribute_line, behind_each, capability_line, joined_visible}
use Rattle.bgp_visible_laws.proofs.Visible.{IsReadable, between_quotes, both, nothing, readable, word}

body_are : (frame : List ℕ) → AreOctets frame → AreOctets (body_of frame)
body_are frame are = All-drop IsOctet 19 frame are

-- ---- OPEN

bar : IsVisible (codes " | ")
bar = word (codes " | ") refl

open_visible : (octets : List ℕ) → AreOctets octets → IsVisible (named_open (open_of octets))
unfolding named_open
open_visible octets are =
    let fields = open_of octets in
    both (word (codes "open as ") refl) (both (decimal_visible fields.my_as) (both (word (codes " hold ") refl) (both (decimal_visible fields.hold)
    (both (word (codes " id ") refl) (both (address_visible (V4 fields.id))
    (behind_each (codes " | ") named_capability IsTriplet bar capability_line fields.capabilities (each_capability (parameters_of octets) (parameters_are octets are))))))))

pub fault_visible : (fault : OpenFault) → IsVisible (open_fault_name fault)
fault_visible Malformed = word (codes "Malformed") refl
fault_visible Version = subcode_visible 2 1
fault_visible Parameter = subcode_visible 2 4

malformed_open : (fault : OpenFault) (body : List ℕ) → AreOctets body → IsVisible (named_malformed_open fault body)
unfolding named_malformed_open
malformed_open fault body are =
    both (word (codes "open malformed ") refl) (both (decimal_visible (open_fault_number fault)) (both (word (codes " ") refl)
    (both (fault_visible fault) (both (word (codes ": ") refl) (hex_visible body are)))))

-- ---- NOTIFICATION

codes_visible : (e : ErrorFields) → IsVisible (codes_text e)
unfolding codes_text
codes_visible e = both (decimal_visible e.code) (both (word (codes "/") refl) (both (decimal_visible e.subcode) (both (word (codes " ") refl) (error_visible e.code e.subcode))))

-- data that say something: a communication is readable
abbrev pub IsSaid : DataValue → Type 0
IsSaid (communication text) = IsReadable text
IsSaid (maximum afi safi prefixes) = Unit {0}

communication_said : (detail : List ℕ) (value : DataValue) → communication_in detail ≡ Some value → IsSaid value
communication_said [] value e = absurd (none-some value e)
communication_said (count ∷ text) value e =
    let found = cond_some ((count == length text) && is_readable text) (communication text) value e in
    subst IsSaid found.1 (readable text (and_parts (count == length text) (is_readable text) found.0).1)

maximum_said : (detail : List ℕ) (value : DataValue) → maximum_in detail ≡ Some value → IsSaid value
maximum_said detail value e =
    subst IsSaid (cond_some (length detail == 7) (maximum (big_number 2 detail) (slice_index detail 2) (big_number 4 (drop 3 detail))) value e).1 tt

abbrev pub SaidBy : Option DataValue → Type 0
SaidBy found = (value : DataValue) → found ≡ Some value → IsSaid value

or_other : (test : Bool) (first second : Option DataValue) → SaidBy first → SaidBy second → SaidBy (if test then first else second)
or_other true first second F S = F
or_other false first second F S = S

none_said : SaidBy None
none_said value e = absurd (none-some value e)

pub data_said : (e : ErrorFields) → SaidBy (data_value e)
data_said e =
    or_other (e.code == 6) _ None
    (or_other (e.subcode == 1) (maximum_in e.detail) _ (maximum_said e.detail)
    (or_other _ (communication_in e.detail) None (communication_said e.detail) none_said))
    none_said

pub data_visible : (value : DataValue) → IsSaid value → IsVisible (data_text value)
unfolding data_text
data_visible (communication text) is = between_quotes text is
data_visible (maximum afi safi prefixes) is =
    both (family_visible afi safi) (both (word (codes " ") refl) (both (decimal_visible prefixes) (word (codes " prefixes") refl)))

hidden_visible : (detail : List ℕ) → AreOctets detail → IsVisible (hidden_text detail)
unfolding hidden_text
hidden_visible [] are = nothing
hidden_visible (octet ∷ octets) are = both (word (codes ": ") refl) (encoded_visible (octet ∷ octets) are)

pub detail_visible : (found : Option DataValue) (detail : List ℕ) → AreOctets detail → SaidBy found → IsVisible (detail_text found detail)
unfolding detail_text
detail_visible None detail are said = hidden_visible detail are
detail_visible (Some value) detail are said = both (word (codes ": ") refl) (data_visible value (said value refl))

plain_error_visible : (e : ErrorFields) → AreOctets e.detail → IsVisible (plain_error_text e)
unfolding plain_error_text
plain_error_visible e are = both (codes_visible e) (detail_visible (data_value e) e.detail are (data_said e))

error_line : (e : ErrorFields) → AreOctets e.detail → (cause : Option ErrorFields) → ((c : ErrorFields) → cause ≡ Some c → AreOctets c.detail) → IsVisible (error_text e cause)
unfolding error_text
error_line e are None each = plain_error_visible e are
error_line e are (Some cause) each = both (codes_visible e) (both (word (codes ": ") refl) (plain_error_visible cause (each cause refl)))

fields_are : (octets : List ℕ) (cause : ErrorFields) → AreOctets octets → fields_in octets ≡ Some cause → AreOctets cause.detail
fields_are [] cause are e = absurd (none-some cause e)
fields_are (code ∷ []) cause are e = absurd (none-some cause e)
fields_are (code ∷ subcode ∷ detail) cause are e =
    let behind = All-tail IsOctet code (subcode ∷ detail) are in
    subst (λ (c : ErrorFields). AreOctets c.detail) (same_Some _ cause e) (All-tail IsOctet subcode detail behind)

pub cause_are : (test : Bool) (octets : List ℕ) (cause : ErrorFields) → AreOctets octets → (if test then fields_in octets else None) ≡ Some cause → AreOctets cause.detail
cause_are true octets cause are e = fields_are octets cause are e
cause_are false octets cause are e = absurd (none-some cause e)

notification_visible : (e : ErrorFields) → AreOctets e.detail → IsVisible (named_notification e)
unfolding named_notification
notification_visible e are =
    both (word (codes "notification ") refl)
    (error_line e are (cause_of e) (λ cause found. cause_are ((e.code == 6) && (e.subcode == 9)) e.detail cause are found))

-- ---- UPDATE

part_visible : (front : List ℕ) → IsVisible front → (destinations : List Destination) → All IsVisible (destinations_part front destinations)
part_visible front before [] = All-nil IsVisible
part_visible front before (destination ∷ destinations) =
    All-cons IsVisible (front ++ destinations_text (destination ∷ destinations)) [] (both before (destinations_visible (destination ∷ destinations))) (All-nil IsVisible)

attributes_visible : (reading : Reading) (attributes : List Attribute) → All IsAttribute attributes → All IsVisible (map (named_attribute reading) attributes)
attributes_visible reading [] all = All-nil IsVisible
attributes_visible reading (a ∷ attributes) all =
    All-cons IsVisible (named_attribute reading a) (map (named_attribute reading) attributes) (attribute_line reading a (All-head IsAttribute a attributes all))
    (attributes_visible reading attributes (All-tail IsAttribute a attributes all))

parts_visible : (reading : Reading) (parts : UpdateParts) → All IsAttribute parts.attributes → All IsVisible (parts_texts reading parts)
parts_visible reading parts all =
    let withdrawn = destinations_part (codes "withdrawn ") parts.withdrawn in
    let announced = destinations_part (codes "announced ") parts.nlri in
    All-append IsVisible withdrawn (announced ++ map (named_attribute reading) parts.attributes) (part_visible (codes "withdrawn ") (word (codes "withdrawn ") refl) parts.withdrawn)
    (All-append IsVisible announced (map (named_attribute reading) parts.attributes) (part_visible (codes "announced ") (word (codes "announced ") refl) parts.nlri)
    (attributes_visible reading parts.attributes all))

body_visible : (reading : Reading) (parts : UpdateParts) → All IsAttribute parts.attributes → (ended : Option FamilyNumbers) → IsVisible (update_body reading parts ended)
unfolding update_body
body_visible reading parts all None = joined_visible (codes " | ") itself IsVisible bar (λ text is. is) (parts_texts reading parts) (parts_visible reading parts all)
body_visible reading parts all (Some family) = both (word (codes "End-of-RIB ") refl) (family_visible family.afi family.safi)

update_visible : (reading : Reading) (octets : List ℕ) (parts : UpdateParts) → AreOctets octets → SpellsParts reading.form octets parts → IsVisible (named_update reading parts)
unfolding named_update
update_visible reading octets parts are says =
    let s = says.sections in
    let fields = sections_are octets s are says.update in
    let each = each_attribute parts.attributes (subst AreOctets (whole_field s.attributes parts.attributes fields.1 says.attributes) fields.1) in
    both (word (codes "update ") refl) (body_visible reading parts each (ended_by parts.withdrawn parts.nlri parts.attributes))

-- ---- any message

pub message_visible : (reading : Reading) (frame : List ℕ) (message : Message) → AreOctets frame → Says reading.form frame message → IsVisible (named_text reading frame message)
message_visible reading frame (open_message fields) are says =
    subst (λ (f : OpenFields). IsVisible (named_open f)) (sym says.2) (open_visible frame are)
message_visible reading frame (malformed_open_message fault) are says = malformed_open fault (body_of frame) (body_are frame are)
message_visible reading frame (update_message parts) are says = update_visible reading frame parts are says.1
message_visible reading frame malformed_update_message are says = both (word (codes "update malformed: ") refl) (hex_visible (body_of frame) (body_are frame are))
message_visible reading frame (notification_message code subcode detail) are says =
    notification_visible (fields_of code subcode detail) (codes_of frame code subcode detail are says.1).2
message_visible reading frame keepalive_message are says = word (codes "keepalive") refl
