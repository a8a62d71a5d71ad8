-- Messages whose objects are equal have the same octets.
use Rattle.std.proofs.Common.{◌≡◌, ◌∙◌, ◌++◌, ◌<◌, ℕ, true, false, List, [], ◌∷◌, bytes_eq, codes, refl, sym, ap, ap₂, subst, arith}
use Rattle.std.proofs.lemmas.List.Elements.{All-drop, All-head, All-tail}
use Rattle.json.specs.Json.{Json}
use Rattle.bgp_wire.specs.Message.{IsKeepalive, message_octets}
use Rattle.bgp_wire.specs.Octets.{AreOctets}
use Rattle.bgp_wire.proofs.HeaderAndBody.{message_is_header_and_body}
use Rattle.bgp_open.specs.Notification.{IsNotification}
use Rattle.bgp_open.specs.Open.{OpenFields, open_of, parameters_of}
use Rattle.bgp_open.specs.OpenFault.{IsWellFormed}
use Rattle.bgp_text.specs.Message.{Message, Says, open_message, malformed_open_message, update_message, malformed_update_message, notification_message, keepalive_message}
use Rattle.bgp_values.specs.declared.opens.Reading.{Reading}
use Rattle.bgp_lines.specs.MessageLine.{fields_of}
use Rattle.bgp_json_values.specs.ErrorJson.{error_members}
use Rattle.bgp_json_values.specs.Octets.{octets_members}
use Rattle.bgp_json.specs.MessageJson.{are_parameters_spelled, malformed_open_members, message_json, octets_unless, open_members, update_members}
use Rattle.bgp_json.specs.Object.{typed}
use Rattle.bgp_json.specs.Place.{place_members}
use Rattle.bgp_json.specs.declared.place.Place.{Place}
use Rattle.bgp_json_laws.proofs.Lookups.{of_key}
use Rattle.bgp_json_laws.proofs.Opens.{same_open}
use Rattle.bgp_json_laws.proofs.Places.{behind_place, differ, same_typed}
use Rattle.bgp_json_laws.proofs.Texts.{IsOctet, same_number_json, same_octets}
use Rattle.bgp_json_laws.proofs.Updates.{same_update}

-- ---- NOTIFICATION and KEEPALIVE

pub codes_of : (octets : List ℕ) (code subcode : ℕ) (detail : List ℕ) → AreOctets octets → IsNotification octets code subcode detail
    → (code < 256) × (subcode < 256) × AreOctets detail
codes_of octets code subcode detail are is =
    let all : AreOctets (code ∷ subcode ∷ detail) = subst AreOctets is.body (All-drop IsOctet 19 octets are) in
    let behind = All-tail IsOctet code (subcode ∷ detail) all in
    (All-head IsOctet code (subcode ∷ detail) all, All-head IsOctet subcode detail behind, All-tail IsOctet subcode detail behind)

same_notification : (octets others : List ℕ) (k l : ℕ) (detail : List ℕ) (m n : ℕ) (other_detail : List ℕ) → AreOctets octets → AreOctets others
    → IsNotification octets k l detail → IsNotification others m n other_detail → error_members (fields_of k l detail) ≡ error_members (fields_of m n other_detail) → octets ≡ others
same_notification octets others k l detail m n other_detail are too is also e =
    let x = codes_of octets k l detail are is in
    let y = codes_of others m n other_detail too also in
    let code = same_number_json k m (let small = x.0 in omega (arith, small)) (let small = y.0 in omega (arith, small)) (ap (of_key (codes "code")) e) in
    let subcode = same_number_json l n (let small = x.1 in omega (arith, small)) (let small = y.1 in omega (arith, small)) (ap (of_key (codes "subcode")) e) in
    let detail_is = same_octets detail other_detail x.2 y.2 (ap (of_key (codes "data")) e) in
    let body : k ∷ l ∷ detail ≡ m ∷ n ∷ other_detail = ap₂ ◌∷◌ code (ap₂ ◌∷◌ subcode detail_is) in
    message_is_header_and_body 3 octets are is.message
    ∙ ap (message_octets 3) (is.body ∙ body ∙ sym also.body)
    ∙ sym (message_is_header_and_body 3 others too also.message)

same_keepalive : (octets others : List ℕ) → AreOctets octets → AreOctets others → IsKeepalive octets → IsKeepalive others → octets ≡ others
same_keepalive octets others are too is also =
    message_is_header_and_body 4 octets are is.0
    ∙ ap (message_octets 4) (is.1 ∙ sym also.1)
    ∙ sym (message_is_header_and_body 4 others too also.0)

-- ---- any message

-- what an object says that it tells of
abbrev pub kind_of : Message → List ℕ
kind_of (open_message fields) = codes "open"
kind_of (malformed_open_message fault) = codes "malformed_open"
kind_of (update_message parts) = codes "update"
kind_of malformed_update_message = codes "malformed_update"
kind_of (notification_message code subcode detail) = codes "notification"
kind_of keepalive_message = codes "keepalive"

-- its members behind the place
abbrev pub members_of : Reading → List ℕ → Message → List (List ℕ × Json)
members_of reading octets (open_message fields) =
    open_members fields ++ octets_unless (are_parameters_spelled fields.capabilities (parameters_of octets)) octets
members_of reading octets (malformed_open_message fault) = malformed_open_members fault octets
members_of reading octets (update_message parts) = update_members reading parts octets
members_of reading octets malformed_update_message = octets_members octets
members_of reading octets (notification_message code subcode detail) = error_members (fields_of code subcode detail)
members_of reading octets keepalive_message = []

nothing_behind : (ms : List (List ℕ × Json)) → ms ++ [] ≡ ms
nothing_behind [] = refl
nothing_behind (m ∷ ms) = ap (λ (l : List (List ℕ × Json)). m ∷ l) (nothing_behind ms)

pub in_parts : (reading : Reading) (place : Place) (octets : List ℕ) (message : Message)
    → message_json reading place octets message ≡ typed (kind_of message) (place_members place ++ members_of reading octets message)
in_parts reading place octets (open_message fields) = refl
in_parts reading place octets (malformed_open_message fault) = refl
in_parts reading place octets (update_message parts) = refl
in_parts reading place octets malformed_update_message = refl
in_parts reading place octets (notification_message code subcode detail) = refl
in_parts reading place octets keepalive_message = ap (typed (codes "keepalive")) (sym (nothing_behind (place_members place)))

-- no place is in them
pub no_place : (reading : Reading) (octets : List ℕ) (message : Message) → behind_place (members_of reading octets message) ≡ members_of reading octets message
no_place reading octets (open_message fields) = refl
no_place reading octets (malformed_open_message fault) = refl
no_place reading octets (update_message parts) = refl
no_place reading octets malformed_update_message = refl
no_place reading octets (notification_message code subcode detail) = refl
no_place reading octets keepalive_message = refl

own : (message : Message) → bytes_eq (kind_of message) (kind_of message) ≡ true
own (open_message fields) = refl
own (malformed_open_message fault) = refl
own (update_message parts) = refl
own malformed_update_message = refl
own (notification_message code subcode detail) = refl
own keepalive_message = refl

pub apart : {P : Type 0} (message another : Message) → bytes_eq (kind_of message) (kind_of another) ≡ false → kind_of message ≡ kind_of another → P
apart message another differs e = absurd (differ (kind_of message) (kind_of another) differs (own another) e)

same_opens : (octets others : List ℕ) (fields also : OpenFields) → AreOctets octets → AreOctets others → IsWellFormed octets → IsWellFormed others
    → fields ≡ open_of octets → also ≡ open_of others → (reading other : Reading)
    → members_of reading octets (open_message fields) ≡ members_of other others (open_message also) → octets ≡ others
same_opens octets others fields also are too formed formed' is is' reading other e =
    same_open octets others are too formed formed'
    (sym (ap (λ (f : OpenFields). members_of reading octets (open_message f)) is) ∙ e ∙ ap (λ (f : OpenFields). members_of other others (open_message f)) is')

by_kind : (reading other : Reading) (octets others : List ℕ) (message another : Message) → AreOctets octets → AreOctets others
    → Says reading.form octets message → Says other.form others another → kind_of message ≡ kind_of another
    → members_of reading octets message ≡ members_of other others another → octets ≡ others
by_kind reading other octets others (open_message fields) (open_message also) are too says said kind e =
    same_opens octets others fields also are too says.1 said.1 says.2 said.2 reading other e
by_kind reading other octets others (malformed_open_message fault) (malformed_open_message also) are too says said kind e =
    same_octets octets others are too (ap (of_key (codes "octets")) e)
by_kind reading other octets others (update_message parts) (update_message also) are too says said kind e =
    same_update reading other octets others parts also are too says.1 said.1 e
by_kind reading other octets others malformed_update_message malformed_update_message are too says said kind e =
    same_octets octets others are too (ap (of_key (codes "octets")) e)
by_kind reading other octets others (notification_message k l detail) (notification_message m n other_detail) are too says said kind e =
    same_notification octets others k l detail m n other_detail are too says.1 said.1 e
by_kind reading other octets others keepalive_message keepalive_message are too says said kind e = same_keepalive octets others are too says.1 said.1
by_kind reading other octets others (open_message fields) another are too says said kind e = apart (open_message fields) another refl kind
by_kind reading other octets others (malformed_open_message fault) another are too says said kind e = apart (malformed_open_message fault) another refl kind
by_kind reading other octets others (update_message parts) another are too says said kind e = apart (update_message parts) another refl kind
by_kind reading other octets others malformed_update_message another are too says said kind e = apart malformed_update_message another refl kind
by_kind reading other octets others (notification_message k l detail) another are too says said kind e = apart (notification_message k l detail) another refl kind
by_kind reading other octets others keepalive_message another are too says said kind e = apart keepalive_message another refl kind

pub same_message : (reading other : Reading) (place also : Place) (octets others : List ℕ) (message another : Message) → AreOctets octets → AreOctets others
    → Says reading.form octets message → Says other.form others another
    → message_json reading place octets message ≡ message_json other also others another → octets ≡ others
same_message reading other place also octets others message another are too says said e =
    let same = same_typed (kind_of message) (kind_of another) place also (members_of reading octets message) (members_of other others another)
    (sym (in_parts reading place octets message) ∙ e ∙ in_parts other also others another) in
    by_kind reading other octets others message another are too says said same.0
    (sym (no_place reading octets message) ∙ same.1 ∙ no_place other others another)
