-- The texts in the lines of a reason have no control characters.
use Rattle.std.proofs.Common.{◌≡◌, ◌++◌, ◌==◌, ◌||◌, ◌<◌, ◌+◌, ◌/◌, ◌%◌, ℕ, Bool, true, false, List, [], ◌∷◌, Option, None, Some, All, arith, codes, if◌then◌else◌, is_some, map, refl, subst, sym, nat_le, nat_lt}
use Rattle.std.specs.Bool.{then_some}
use Rattle.std.proofs.lemmas.Bool.{and_from, le-leb}
use Rattle.std.proofs.lemmas.List.Elements.{All-cons, All-from_get_or, All-head, All-nil, All-tail}
use Rattle.byteorder.specs.Endian.{big_bytes}
use Rattle.hex.specs.Hex.{encode_lower}
use Rattle.bgp_prefix.specs.Shown.{Received as In, Sent as Out, Changed}
use Rattle.bgp_prefix.specs.declared.address.Address.{Address}
use Rattle.bgp_prefix.specs.declared.address.Address.TheVariants.{V4, V6}
use Rattle.bgp_prefix.proofs.PrintedTexts.{octets_below}
use Rattle.bgp_wire.specs.Octets.{AreOctets}
use Rattle.bgp_wire.specs.declared.header.HeaderFaults.{HeaderFaults}
use Rattle.bgp_open.specs.declared.families.Families.{Families}
use Rattle.bgp_open.specs.declared.link.Link.{Link}
use Rattle.bgp_open.specs.declared.subcodes.OpenSubcodes.{OpenSubcodes}
use Rattle.bgp_machine.specs.State.{number_of}
use Rattle.bgp_machine.specs.declared.fsm.Fsm.{Fsm}
use Rattle.bgp_machine.specs.declared.fsm.Fsm.TheVariants as states
use Rattle.bgp_parts.specs.UpdateParts.{shown_part}
use Rattle.bgp_reason.specs.declared.kinds.FsmErrors.{FsmErrors}
use Rattle.bgp_reason.specs.declared.kinds.Possible.{Possible}
use Rattle.bgp_update.specs.declared.subcodes.Subcodes.{Subcodes}
use Rattle.bgp_clock.specs.Civil.{day_at, hour_at, minute_at, month_at, second_at, year_at}
use Rattle.bgp_clock.specs.When.{clock_text, date_text, four_digits, fraction_text, short_text, six_digits, time_text, two_digits, when_text}
use Rattle.bgp_why_parts.specs.declared.own_faults.OwnFaults.{OwnFaults}
use Rattle.bgp_why.specs.Applying.{applied_piece, applied_text, disabled_text, may_disable_these, or_else, outcomes_text, refused_piece, these}
use Rattle.bgp_why.specs.Asked.{in_use_text, keepalive_text, link_text, unexpected_text, update_text, width_text}
use Rattle.bgp_why.specs.Deed.{changed_deed, due_first, message_due, messages_in, is_message, only, received_deed, resembled_text, sent_deed}
use Rattle.bgp_why.specs.Endpoint.{endpoint_by, endpoint_text, with_port}
use Rattle.bgp_why.specs.Errors.{any_of, data_text, error_if, error_of, error_text, errors_in, errors_text, fsm_errors, has_all, header_errors, header_faults, length_error, more_errors, open_errors, type_error, update_errors, update_errors_text, version_error}
use Rattle.bgp_why.specs.Items.{all_items, change_text, due_text, end_text, expiry_item, from_text, has_fsm_error, has_header_error, has_open_error, has_update_error, other_text, same_text, those_possible, way_text}
use Rattle.bgp_why.specs.Lacks.{is_resembled, lacks_text, resembles}
use Rattle.bgp_why.specs.Message.{faulty_text, is_refresh, name_text}
use Rattle.bgp_why.specs.Reasons.{as_piece, configured_text, hold_piece, identifier_piece, parameter_piece, reasons_text}
use Rattle.bgp_why.specs.declared.applying.Applying.{Applying}
use Rattle.bgp_why.specs.declared.asked.Received.TheVariants as messages
use Rattle.bgp_why.specs.declared.endpoint.Endpoint.{Endpoint}
use Rattle.bgp_why.specs.declared.items.Item.{Item}
use Rattle.bgp_why.specs.declared.items.Item.TheVariants as items
use Rattle.bgp_why.specs.declared.lacks.Lacks.{Lacks}
use Rattle.bgp_why.specs.declared.lacks.Lacks.TheVariants as lacked
use Rattle.bgp_why.specs.declared.message.MessageName.{MessageName}
use Rattle.bgp_why.specs.declared.message.MessageName.TheVariants as names
use Rattle.bgp_why.specs.declared.note_lines.Note.TheVariants as said
use Rattle.bgp_why.specs.declared.refusal.OpenReasons.{OpenReasons}
use Rattle.bgp_why.specs.declared.refusal.OpenReasons.TheVariants.{Fields, Version, Malformed}
use Rattle.bgp_json_laws.proofs.Texts.{IsOctet}
use Rattle.bgp_visible_laws.specs.Visible.{IsVisible}
use Rattle.bgp_visible_laws.proofs.Texts.{address_visible, decimal_visible, encoded_visible, if_visible, state_visible}
use Rattle.bgp_visible_laws.proofs.Visible.{both, is_shown_octet, nothing, octet_visible, word}
use Rattle.bgp_why_laws.specs.Octets.{AreLacks, IsItem, IsOctetIfAny}
use Rattle.bgp_why_laws.specs.Texts.{AsksAreVisible, CausesAreVisible, DeedsAreVisible, ItemsAreVisible, LacksAreVisible, NamesAreVisible, NotesAreVisible, UpdateAsksAreVisible}
use Rattle.bgp_why_laws.proofs.Parts.{code_visible, families_visible, full_code_visible, listed_visible, notification_parts_visible, offer_visible, open_parts_visible, own_faults_visible, pieces_visible, shown_visible, update_parts_visible, IsPiece}

-- ---- times

digit_shown : (d : ℕ) → d < 10 → is_shown_octet (48 + d) ≡ true
digit_shown d small = and_from (nat_le 32 (48 + d)) (nat_le (48 + d) 126) (le-leb 32 (48 + d) (omega arith)) (le-leb (48 + d) 126 (omega (arith, small)))

digit : (n : ℕ) → IsVisible ((48 + n % 10) ∷ [])
digit n = octet_visible (48 + n % 10) (digit_shown (n % 10) (omega arith))

two_visible : (n : ℕ) → IsVisible (two_digits n)
two_visible n = both (digit (n / 10)) (digit n)

four_visible : (n : ℕ) → IsVisible (four_digits n)
four_visible n = both (digit (n / 1000)) (both (digit (n / 100)) (two_visible n))

six_visible : (n : ℕ) → IsVisible (six_digits n)
six_visible n = both (digit (n / 100000)) (both (digit (n / 10000)) (four_visible n))

clock_visible : (second : ℕ) (micro : Option ℕ) → IsVisible (clock_text second micro)
unfolding clock_text time_text
clock_visible second micro =
    both (both (two_visible (hour_at second)) (both (word (codes ":") refl) (both (two_visible (minute_at second)) (both (word (codes ":") refl) (two_visible (second_at second))))))
    (fraction micro) where
      fraction : (micro : Option ℕ) → IsVisible (fraction_text micro)
      fraction None = nothing
      fraction (Some n) = if_visible (nat_lt n 1000000) (codes "." ++ six_digits n) [] (both (word (codes ".") refl) (six_visible n)) nothing

when_visible : (second : ℕ) (micro : Option ℕ) → IsVisible (when_text second micro)
unfolding when_text date_text
when_visible second micro =
    both (both (four_visible (year_at second)) (both (word (codes "-") refl) (both (two_visible (month_at second)) (both (word (codes "-") refl) (two_visible (day_at second))))))
    (both (word (codes " ") refl) (clock_visible second micro))

short_visible : (first second : ℕ) (micro : Option ℕ) → IsVisible (short_text first second micro)
short_visible first second micro =
    if_visible (first / 86400 == second / 86400) (clock_text second micro) (when_text second micro) (clock_visible second micro) (when_visible second micro)

-- ---- ends

port_visible : (address : Address) (port : ℕ) → IsVisible (with_port address port)
port_visible (V4 number) port = both (address_visible (V4 number)) (both (word (codes ":") refl) (decimal_visible port))
port_visible (V6 number) port = both (word (codes "[") refl) (both (address_visible (V6 number)) (both (word (codes "]:") refl) (decimal_visible port)))

end_by : (address : Address) (port : Option ℕ) → IsVisible (endpoint_by address port)
end_by address None = address_visible address
end_by address (Some port) = port_visible address port

end_visible : (end : Endpoint) → IsVisible (endpoint_text end)
end_visible end = end_by end.address end.port

-- ---- errors

-- the type of an error, which has no name here
abbrev TypeOf : {A : Type 0} → A → Type 0
TypeOf {A} a = A

abbrev Code : Type 0
Code = TypeOf (error_of 0 0)

-- the data that it has to have, if they aren't free, are such
abbrev Is : Code → Type 0
Is error = IsVisible (data_text error.fixed)

abbrev IsError : Option Code → Type 0
IsError None = Unit {0}
IsError (Some error) = Is error

one_octet : (octet : ℕ) → octet < 256 → AreOctets (octet ∷ [])
one_octet octet small = All-cons IsOctet octet [] small (All-nil IsOctet)

field_octets : (field : ℕ) → AreOctets (big_bytes 2 field)
field_octets field = All-from_get_or IsOctet (big_bytes 2 field) 0 (λ i inside. octets_below 2 field i)

-- data of one octet, and of a field of two
octet_data : (octet : ℕ) → octet < 256 → IsVisible (codes " with data " ++ encode_lower (octet ∷ []))
octet_data octet small = both (word (codes " with data ") refl) (encoded_visible (octet ∷ []) (one_octet octet small))

field_data : (field : ℕ) → IsVisible (codes " with data " ++ encode_lower (big_bytes 2 field))
field_data field = both (word (codes " with data ") refl) (encoded_visible (big_bytes 2 field) (field_octets field))

error_visible : (error : Code) → Is error → IsVisible (error_text error)
error_visible error is = both (code_visible error.code error.subcode) is

abbrev AreErrors : List (Option Code) → Type 0
AreErrors [] = Unit {0}
AreErrors (error ∷ errors) = IsError error × AreErrors errors

those_in : (errors : List (Option Code)) → AreErrors errors → All Is (errors_in errors)
those_in [] all = All-nil Is
those_in (None ∷ errors) all = those_in errors all.1
those_in (Some error ∷ errors) all = All-cons Is error (errors_in errors) all.0 (those_in errors all.1)

more_visible : (front : List ℕ) → IsVisible front → (errors : List Code) → All Is errors → IsVisible (more_errors front errors)
more_visible front before [] all = nothing
more_visible front before (error ∷ []) all = both before (error_visible error (All-head Is error [] all))
more_visible front before (error ∷ another ∷ errors) all =
    both (word (codes ", ") refl) (both (error_visible error (All-head Is error (another ∷ errors) all))
    (more_visible front before (another ∷ errors) (All-tail Is error (another ∷ errors) all)))

errors_visible : (front : List ℕ) → IsVisible front → (errors : List Code) → All Is errors → IsVisible (errors_text front errors)
errors_visible front before [] all = nothing
errors_visible front before (error ∷ errors) all =
    both (error_visible error (All-head Is error errors all)) (more_visible front before errors (All-tail Is error errors all))

any_visible : (errors : List (Option Code)) → AreErrors errors → IsVisible (any_of errors)
any_visible errors all = errors_visible (codes " or ") (word (codes " or ") refl) (errors_in errors) (those_in errors all)

free_if : (is_in : Bool) (code subcode : ℕ) → IsError (error_if is_in code subcode)
free_if true code subcode = nothing
free_if false code subcode = tt

length_is : (field : Option ℕ) → IsError (length_error field)
length_is None = tt
length_is (Some field) = field_data field

type_is : (field : Option ℕ) → IsOctetIfAny field → IsError (type_error field)
type_is None is = tt
type_is (Some field) is = octet_data field is

header_visible : (errors : HeaderFaults) → IsOctetIfAny errors.kind → IsVisible (any_of (header_errors errors))
header_visible errors is =
    any_visible (header_errors errors)
    (free_if errors.marker 1 1, (length_is errors.length, (type_is errors.kind is, tt)))

version_is : (is_in : Bool) → IsError (then_some is_in version_error)
version_is true = field_data 4
version_is false = tt

open_visible : (errors : OpenSubcodes) → IsVisible (any_of (open_errors errors))
open_visible errors =
    any_visible (open_errors errors)
    (free_if errors.unspecific 2 0, (version_is errors.version, (free_if errors.peer_as 2 2, (free_if errors.identifier 2 3, (free_if errors.parameter 2 4, (free_if errors.hold 2 6, (free_if errors.capability 2 7, (free_if errors.role 2 11, tt))))))))

update_visible : (errors : Subcodes) → IsVisible (update_errors_text errors)
update_visible errors =
    if_visible (has_all errors) (codes "3/1 to 3/11 (UPDATE Message Error)") (any_of (update_errors errors)) (word (codes "3/1 to 3/11 (UPDATE Message Error)") refl)
    (any_visible (update_errors errors)
    (free_if errors.malformed_attribute_list 3 1, (free_if errors.unrecognized_well_known 3 2, (free_if errors.missing_well_known 3 3, (free_if errors.attribute_flags 3 4, (free_if errors.attribute_length 3 5, (free_if errors.invalid_origin 3 6, (free_if errors.as_routing_loop 3 7, (free_if errors.invalid_next_hop 3 8, (free_if errors.optional_attribute 3 9, (free_if errors.invalid_network_field 3 10, (free_if errors.malformed_as_path 3 11, tt))))))))))))

state_errors_visible : (errors : FsmErrors) → IsVisible (any_of (fsm_errors errors))
state_errors_visible errors =
    any_visible (fsm_errors errors)
    (free_if errors.unspecified 5 0, (free_if errors.open_sent 5 1, (free_if errors.open_confirm 5 2, (free_if errors.established 5 3, tt))))

-- ---- how a message is called

faults_visible : (faults : HeaderFaults) → IsVisible (faulty_text faults)
faults_visible faults =
    if_visible (is_refresh faults) (codes "ROUTE-REFRESH, read as a faulty header, 1/3 (Bad Message Type)") _
    (word (codes "ROUTE-REFRESH, read as a faulty header, 1/3 (Bad Message Type)") refl)
    (both (word (codes "a faulty header, ") refl)
    (errors_visible (codes " and ") (word (codes " and ") refl) (errors_in (header_faults faults))
    (those_in (header_faults faults)
    (free_if faults.marker 1 1, (free_if (is_some faults.length) 1 2, (free_if (is_some faults.kind) 1 3, tt))))))

pub names_visible : NamesAreVisible
unfolding name_text
names_visible names.Open = word (codes "OPEN") refl
names_visible names.MalformedOpen = word (codes "malformed OPEN") refl
names_visible names.Update = word (codes "UPDATE") refl
names_visible names.MalformedUpdate = word (codes "malformed UPDATE") refl
names_visible names.Keepalive = word (codes "KEEPALIVE") refl
names_visible (names.Notification code subcode) = both (word (codes "NOTIFICATION ") refl) (full_code_visible code subcode)
names_visible (names.FaultyHeader faults) = faults_visible faults

-- ---- what a message asks for

width_visible : (as4 : Bool) → IsVisible (width_text as4)
width_visible as4 =
    if_visible as4 (codes ", AS numbers of 4 octets, ") (codes ", AS numbers of 2 octets, ") (word (codes ", AS numbers of 4 octets, ") refl) (word (codes ", AS numbers of 2 octets, ") refl)

in_use_visible : (families : Families) → IsVisible (in_use_text families)
in_use_visible families = if_visible (families.v4 || families.v6) _ (codes "no address family") (families_visible families) (word (codes "no address family") refl)

link_visible : (link : Link) → IsVisible (link_text link)
unfolding link_text
link_visible link =
    both (word (codes ": valid; the session then has Hold Time ") refl) (both (decimal_visible link.hold) (both (width_visible link.as4) (in_use_visible link.families)))

unexpected : (state : Fsm) → IsVisible (unexpected_text state)
unexpected state = both (word (codes ": unexpected in ") refl) (state_visible (number_of state))

keepalive_visible : (state : Fsm) → IsVisible (keepalive_text state)
keepalive_visible states.Idle = unexpected states.Idle
keepalive_visible states.Connect = unexpected states.Connect
keepalive_visible states.Active = unexpected states.Active
keepalive_visible states.OpenSent = unexpected states.OpenSent
keepalive_visible states.OpenConfirm = nothing
keepalive_visible states.Established = nothing

update_asked : (state : Fsm) → IsVisible (update_text state)
update_asked states.Idle = unexpected states.Idle
update_asked states.Connect = unexpected states.Connect
update_asked states.Active = unexpected states.Active
update_asked states.OpenSent = unexpected states.OpenSent
update_asked states.OpenConfirm = unexpected states.OpenConfirm
update_asked states.Established = nothing

parameter_visible : (other : Bool) → IsPiece (parameter_piece other)
parameter_visible true = word (codes "a parameter of another type than 2") refl
parameter_visible false = tt

configured_visible : (is_free : Bool) (number : ℕ) → IsVisible (configured_text is_free number)
configured_visible true number = word (codes "another") refl
configured_visible false number = decimal_visible number

as_visible : (is_free : Bool) (configured : ℕ) (number : Option ℕ) → IsPiece (as_piece is_free configured number)
as_visible is_free configured None = tt
as_visible is_free configured (Some number) =
    both (word (codes "AS ") refl) (both (decimal_visible number) (both (word (codes ", configured ") refl) (configured_visible is_free configured)))

identifier_visible : (id : Option ℕ) → IsPiece (identifier_piece id)
identifier_visible None = tt
identifier_visible (Some id) = both (word (codes "BGP Identifier ") refl) (address_visible (V4 id))

hold_visible : (hold : Option ℕ) → IsPiece (hold_piece hold)
hold_visible None = tt
hold_visible (Some hold) = both (word (codes "Hold Time ") refl) (decimal_visible hold)

reasons_visible : (is_free : Bool) (reasons : OpenReasons) → IsVisible (reasons_text is_free reasons)
reasons_visible is_free (Version number) = both (word (codes "version ") refl) (decimal_visible number)
reasons_visible is_free Malformed = word (codes "a length that does not fit") refl
reasons_visible is_free (Fields reasons) =
    listed_visible
    (parameter_piece reasons.other_parameter ∷ as_piece is_free reasons.configured_as reasons.peer_as ∷ identifier_piece reasons.identifier
    ∷ hold_piece reasons.hold ∷ [])
    (parameter_visible reasons.other_parameter, (as_visible is_free reasons.configured_as reasons.peer_as, (identifier_visible reasons.identifier, (hold_visible reasons.hold, tt))))

pub asks_visible : AsksAreVisible
asks_visible is_free state messages.FaultyHeader = nothing
asks_visible is_free state (messages.ValidOpen link) = link_visible link
asks_visible is_free state (messages.InvalidOpen reasons) = both (word (codes ": invalid; it has ") refl) (reasons_visible is_free reasons)
asks_visible is_free state messages.Update = update_asked state
asks_visible is_free state messages.Keepalive = keepalive_visible state
asks_visible is_free state messages.Notification = word (codes ": ends the session") refl

-- ---- what an UPDATE asks for

applied_visible : (as_withdrawal : Bool) → IsVisible (applied_text as_withdrawal)
applied_visible as_withdrawal =
    if_visible as_withdrawal (codes "to be treated as a withdrawal") (codes "to be applied") (word (codes "to be treated as a withdrawal") refl) (word (codes "to be applied") refl)

disabled_visible : (families : Families) → IsVisible (disabled_text families)
disabled_visible families =
    if_visible (families.v4 || families.v6) _ [] (both (word (codes " with ") refl) (both (families_visible families) (word (codes " disabled") refl))) nothing

some_if : (is_so : Bool) (text : List ℕ) → IsVisible text → IsPiece (if is_so then Some text else None)
some_if true text visible = visible
some_if false text visible = tt

applied_piece_visible : (applied : Option Applying) (families : Families) → IsPiece (applied_piece applied families)
applied_piece_visible None families = tt
applied_piece_visible (Some applying) families =
    some_if (may_disable_these applying families) _ (both (applied_visible applying.as_withdrawal) (disabled_visible families))

refused_visible : (refused : Subcodes) → IsPiece (refused_piece refused)
refused_visible refused = some_if (has_update_error refused) _ (both (word (codes "to be refused with NOTIFICATION ") refl) (update_visible refused))

outcomes_visible : (applied : Option Applying) (refused : Subcodes) → IsVisible (outcomes_text applied refused)
outcomes_visible applied refused =
    pieces_visible or_else (codes ": ") (word or_else refl) (word (codes ": ") refl)
    (applied_piece applied (these false false) ∷ applied_piece applied (these true false) ∷ applied_piece applied (these false true)
    ∷ applied_piece applied (these true true) ∷ refused_piece refused ∷ [])
    (applied_piece_visible applied (these false false), (applied_piece_visible applied (these true false), (applied_piece_visible applied (these false true), (applied_piece_visible applied (these true true), (refused_visible refused, tt)))))

pub update_asks_visible : UpdateAsksAreVisible
update_asks_visible applied refused [] all = word (codes ": without fault") refl
update_asks_visible applied refused (part ∷ parts) all =
    both (outcomes_visible applied refused) (both (word (codes " [RFC 7606]") refl)
    (shown_visible (codes "; faulty: ") _ (word (codes "; faulty: ") refl) (update_parts_visible false (part ∷ parts) all)))

-- ---- items

pub due_visible : (item : Item) → IsItem item → IsVisible (due_text item)
unfolding due_text
due_visible items.ReceivedMessage is = nothing
due_visible items.SentOpen is = word (codes "OPEN") refl
due_visible items.SentKeepalive is = word (codes "KEEPALIVE") refl
due_visible items.SentUpdate is = word (codes "UPDATE without fault") refl
due_visible (items.HeaderErrors errors) is = both (word (codes "NOTIFICATION ") refl) (header_visible errors is)
due_visible (items.OpenErrors errors) is = both (word (codes "NOTIFICATION ") refl) (open_visible errors)
due_visible (items.UpdateErrors errors) is = both (word (codes "NOTIFICATION ") refl) (update_visible errors)
due_visible (items.HoldTimerExpired from) is = both (word (codes "NOTIFICATION ") refl) (code_visible 4 0)
due_visible items.SendHoldTimerExpired is = both (word (codes "NOTIFICATION ") refl) (code_visible 8 0)
due_visible (items.StateErrors errors) is = both (word (codes "NOTIFICATION ") refl) (state_errors_visible errors)
due_visible items.Cease is = word (codes "NOTIFICATION 6 (Cease)") refl
due_visible (items.Change from to) is = nothing

from_visible : (first from : ℕ) → IsVisible (from_text first from)
from_visible first from =
    if_visible (from == 0) [] _ nothing (both (word (codes " at ") refl) (both (short_visible first from None) (word (codes " or later") refl)))

change_visible : (old new : ℕ) → IsVisible (change_text old new)
change_visible old new =
    if_visible (old == new) (same_text old) _ (both (word (codes "the same state once more, ") refl) (state_visible old))
    (if_visible (new == 1) (end_text old) (other_text old new)
    (both (word (codes "the session ends, ") refl) (both (state_visible old) (word (codes " to Idle [RFC 4271 8.2.2]") refl)))
    (both (word (codes "change of state, ") refl) (both (state_visible old) (both (word (codes " to ") refl) (both (state_visible new) (word (codes " [RFC 4271 8.2.2]") refl))))))

way_visible : (first : ℕ) (item : Item) → IsVisible (way_text first item)
unfolding way_text
way_visible first items.ReceivedMessage = word (codes "any message received") refl
way_visible first items.SentOpen = word (codes " sent [RFC 4271 4.2]") refl
way_visible first items.SentKeepalive = word (codes " sent [RFC 4271 4.4]") refl
way_visible first items.SentUpdate = word (codes " sent [RFC 4271 4.3]") refl
way_visible first (items.HeaderErrors errors) = word (codes " sent [RFC 4271 6.1]") refl
way_visible first (items.OpenErrors errors) = word (codes " sent [RFC 4271 6.2]") refl
way_visible first (items.UpdateErrors errors) = word (codes " sent [RFC 4271 6.3]") refl
way_visible first (items.HoldTimerExpired from) = both (word (codes " sent") refl) (both (from_visible first from) (word (codes " [RFC 4271 6.5]") refl))
way_visible first items.SendHoldTimerExpired = word (codes " sent [RFC 9687 4]") refl
way_visible first (items.StateErrors errors) = word (codes " sent [RFC 4271 6.6]") refl
way_visible first items.Cease = word (codes " sent, any subcode [RFC 4271 6.7]") refl
way_visible first (items.Change from to) = change_visible (number_of from) (number_of to)

pub items_visible : ItemsAreVisible
items_visible first item is = both (due_visible item is) (way_visible first item)

-- ---- what a record lacks

lacks_visible : {X : Type 0} (before own : List ℕ) → IsVisible before → IsVisible own → (faults : Option OwnFaults) (lacks : Lacks X) → AreLacks lacks
    → IsVisible (lacks_text before own faults lacks)
lacks_visible before own first second faults lacked.Nothing are = nothing
lacks_visible before own first second None (lacked.Open parts) are = shown_visible before _ first (open_parts_visible parts)
lacks_visible before own first second (Some told) (lacked.Open parts) are = own_faults_visible own second told
lacks_visible before own first second faults (lacked.Update parts) are = shown_visible before _ first (update_parts_visible true (map shown_part parts.items) are)
lacks_visible before own first second faults (lacked.Notification code parts) are = shown_visible before _ first (notification_parts_visible code parts are)

pub buts_visible : {X : Type 0} (lacks : Lacks X) → LacksAreVisible lacks
buts_visible lacks faults item are =
    if_visible (resembles lacks item) _ []
    (lacks_visible (codes "; this one: ") (codes "; none may have ") (word (codes "; this one: ") refl) (word (codes "; none may have ") refl) faults lacks are) nothing

-- ---- notes

pub notes_visible : NotesAreVisible
notes_visible said.MayBeRefused =
    both (word (codes "a router may refuse any OPEN of version 4 with 2/6 (Unacceptable Hold Time), ") refl) (word (codes "2/7 (Unsupported Capability) or 2/11 (Role Mismatch)") refl)
notes_visible said.BeginsElsewhere =
    both (word (codes "the file does not begin where the session does, with a change from Idle to ") refl) (word (codes "Connect or to Active") refl)
notes_visible said.OpenCameFirst = word _ refl
notes_visible (said.Without offer) = both (word (codes "judged without what both OPENs offer: --offers ") refl) (offer_visible offer)
notes_visible said.ExtendedParameters = word _ refl
notes_visible said.KeepaliveWithoutHold = word _ refl
notes_visible said.MayHaveEnded = word _ refl
notes_visible said.MayBeMissing = word _ refl

-- ---- what was done, and what is wrong with it

received_visible : (peer : Endpoint) (name : MessageName) → IsVisible (received_deed peer name)
unfolding received_deed
received_visible peer name = both (word (codes "received ") refl) (both (names_visible name) (both (word (codes " from ") refl) (end_visible peer)))

sent_visible : (peer : Endpoint) (name : MessageName) → IsVisible (sent_deed peer name)
unfolding sent_deed
sent_visible peer name = both (word (codes "sent ") refl) (both (names_visible name) (both (word (codes " to ") refl) (end_visible peer)))

changed_visible : (old new : ℕ) → IsVisible (changed_deed old new)
unfolding changed_deed
changed_visible old new = both (word (codes "went from ") refl) (both (state_visible old) (both (word (codes " to ") refl) (state_visible new)))

pub deeds_visible : DeedsAreVisible
deeds_visible session peer form (In second octets) text is = subst IsVisible (sym is.2) (received_visible peer is.0)
deeds_visible session peer form (Out second octets) text is = subst IsVisible (sym is.2) (sent_visible peer is.0)
deeds_visible session peer form (Changed second old new) text is = subst IsVisible (sym is) (changed_visible old new)

-- each item that may come is one
abbrev IsItemIfAny : Option Item → Type 0
IsItemIfAny None = Unit {0}
IsItemIfAny (Some item) = IsItem item

one_if : (is_so : Bool) (item : Item) → IsItem item → IsItemIfAny (then_some is_so item)
one_if true item is = is
one_if false item is = tt

expiry_is : (from : Option ℕ) → IsItemIfAny (expiry_item from)
expiry_is None = tt
expiry_is (Some from) = tt

abbrev AreItems : List (Option Item) → Type 0
AreItems [] = Unit {0}
AreItems (item ∷ list) = IsItemIfAny item × AreItems list

all_are : (p : Possible) → IsOctetIfAny p.header_errors.kind → AreItems (all_items p)
all_are p is = (one_if p.message items.ReceivedMessage tt, (one_if p.own_open items.SentOpen tt, (one_if p.keepalive items.SentKeepalive tt, (one_if p.update items.SentUpdate tt, (one_if (has_header_error p.header_errors) (items.HeaderErrors p.header_errors) is, (one_if (has_open_error p.open_errors) (items.OpenErrors p.open_errors) tt, (one_if (has_update_error p.update_errors) (items.UpdateErrors p.update_errors) tt, (expiry_is p.hold_timer_expired, (one_if p.send_hold_timer_expired items.SendHoldTimerExpired tt, (one_if (has_fsm_error p.fsm_errors) (items.StateErrors p.fsm_errors) tt, (one_if p.cease items.Cease tt, (one_if p.changes.idle (items.Change p.state states.Idle) tt, (one_if p.changes.connect (items.Change p.state states.Connect) tt, (one_if p.changes.active (items.Change p.state states.Active) tt, (one_if p.changes.open_sent (items.Change p.state states.OpenSent) tt, (one_if p.changes.open_confirm (items.Change p.state states.OpenConfirm) tt, (one_if p.changes.established (items.Change p.state states.Established) tt, tt)))))))))))))))))

those_are : (list : List (Option Item)) → AreItems list → All IsItem (those_possible list)
those_are [] all = All-nil IsItem
those_are (None ∷ list) all = those_are list all.1
those_are (Some item ∷ list) all = All-cons IsItem item (those_possible list) all.0 (those_are list all.1)

pub possible_are : (p : Possible) → IsOctetIfAny p.header_errors.kind → All IsItem (those_possible (all_items p))
possible_are p is = those_are (all_items p) (all_are p is)

add_if : (is_so : Bool) (item : Item) (list rest : List Item) → All IsItem (item ∷ rest) → All IsItem rest → All IsItem (if is_so then item ∷ rest else rest)
add_if true item list rest with_it all = with_it
add_if false item list rest with_it all = all

messages_are : (list : List Item) → All IsItem list → All IsItem (messages_in list)
messages_are [] all = All-nil IsItem
messages_are (item ∷ list) all =
    let rest = messages_are list (All-tail IsItem item list all) in
    add_if (is_message item) item list (messages_in list) (All-cons IsItem item (messages_in list) (All-head IsItem item list all) rest) rest

only_is : (list : List Item) → All IsItem list → IsItemIfAny (only list)
only_is [] all = tt
only_is (item ∷ []) all = All-head IsItem item [] all
only_is (item ∷ another ∷ list) all = tt

due_first_visible : (item : Option Item) → IsItemIfAny item → IsVisible (due_first item)
due_first_visible None is = word (codes " before it did what was due") refl
due_first_visible (Some item) is = both (word (codes ", but ") refl) (both (due_visible item is) (word (codes " was due first") refl))

resembled_visible : {X : Type 0} (faults : Option OwnFaults) (p : Possible) (lacks : Lacks X) → AreLacks lacks → IsVisible (resembled_text faults p lacks)
resembled_visible faults p lacks are =
    if_visible (is_resembled p lacks) _ [] (lacks_visible (codes ": ") (codes ": ") (word (codes ": ") refl) (word (codes ": ") refl) faults lacks are) nothing

pub due_cause_visible : (p : Possible) → IsOctetIfAny p.header_errors.kind → IsVisible (due_first (message_due p))
due_cause_visible p is =
    due_first_visible (message_due p) (only_is (messages_in (those_possible (all_items p))) (messages_are (those_possible (all_items p)) (possible_are p is)))

pub causes_visible : {X : Type 0} (lacks : Lacks X) → CausesAreVisible lacks
causes_visible lacks faults p is are =
    if_visible p.message _ _ (both (word (codes ", not allowed here") refl) (resembled_visible faults p lacks are)) (due_cause_visible p is)
