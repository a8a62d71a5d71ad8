-- Members of a list's objects have nothing hidden.
use Rattle.std.proofs.Common.{◌≡◌, ◌++◌, ℕ, true, List, [], ◌∷◌, Option, None, Some, codes, refl}
use Rattle.json.specs.Json.{Json, string}
use Rattle.mrt_sessions.specs.Counts.{counts_in}
use Rattle.mrt_sessions.specs.File.{Located}
use Rattle.mrt_sessions.specs.declared.addresses.Addresses as sessions
use Rattle.mrt_sessions.specs.declared.counts.Counts.{Counts}
use Rattle.bgp_prefix.specs.declared.session.Session.{Session}
use Rattle.segments.specs.declared.found.Addresses.{Addresses}
use Rattle.streams.specs.declared.connection.Closing.{Closing}
use Rattle.streams.specs.declared.connection.Closing.TheVariants.{Fin, Reset}
use Rattle.streams.specs.declared.connection.Opening.{Opening}
use Rattle.bgp_import.specs.ListText.{other_side}
use Rattle.bgp_import.specs.Refusals.{refusal_name, refusal_number, refusal_packet}
use Rattle.bgp_import.specs.declared.refusal.Refusal.{Refusal}
use Rattle.bgp_why.specs.declared.endpoint.Endpoint.{Endpoint}
use Rattle.bgp_json_values.specs.Objects.{number_of}
use Rattle.bgp_json_values.specs.Texts.{address_json}
use Rattle.bgp_json_values.specs.Times.{time_members}
use Rattle.bgp_ended.specs.Values.{EndedValue, HowValue, Notified, Closed, Fallen, OutlineValue}
use Rattle.bgp_list.specs.ConnectionJson.{addresses_members, as_members, ends_members, first_members, opening_members, outlined_members, refused_members}
use Rattle.bgp_list.specs.Connections.{as_of, endpoint_of}
use Rattle.bgp_list.specs.EndedJson.{closing_word, end_members, ended_members, how_members}
use Rattle.bgp_list.specs.JsonMembers.{endpoint_members, number_members, pair_members}
use Rattle.bgp_list.specs.SessionJson.{addresses_members as session_addresses, counts_members, seconds_members}
use Rattle.bgp_list.specs.Sessions.{first_second, last_second}
use Rattle.bgp_list_laws.specs.Ranges.{IsEndIfAny, IsHow, IsOutline}
use Rattle.bgp_visible_laws.proofs.JsonTexts.{HaveTexts, field, of_any, of_both, of_number, of_object, of_text}
use Rattle.bgp_visible_laws.proofs.JsonValues.{of_address, of_error, of_time}
use Rattle.bgp_visible_laws.proofs.Refusals.{name_word}
use Rattle.bgp_visible_laws.proofs.Texts.{state_visible}
use Rattle.bgp_visible_laws.proofs.Visible.{is_word, word}

-- ---- numbers and ends

pub of_number_if : (key : List ℕ) → is_word key ≡ true → (number : Option ℕ) → HaveTexts (number_members key number)
of_number_if key is None = tt
of_number_if key is (Some number) = field key is (of_number number) tt

pub of_endpoint : (key port_key : List ℕ) → is_word key ≡ true → is_word port_key ≡ true → (end : Endpoint) → HaveTexts (endpoint_members key port_key end)
of_endpoint key port_key is also end = field key is (of_address end.address) (of_number_if port_key also end.port)

pub of_pair : (key : List ℕ) → is_word key ≡ true → (first second : ℕ) → HaveTexts (pair_members key first second)
of_pair key is first second = field key is (of_any number_of of_number (first ∷ second ∷ [])) tt

-- ---- how a session ended

closing_is : (closing : Closing) → is_word (closing_word closing) ≡ true
closing_is Fin = refl
closing_is Reset = refl

pub of_how : (how : HowValue) → IsHow how → HaveTexts (how_members how)
of_how (Notified error) is = field (codes "how") refl (of_text (word (codes "NOTIFICATION") refl)) (of_error error is.detail)
of_how (Closed closing) is = field (codes "how") refl (of_text (word (closing_word closing) (closing_is closing))) tt
of_how (Fallen state) is =
    field (codes "how") refl (of_text (word (codes "change") refl))
    (field (codes "old") refl (of_text (state_visible state)) (field (codes "new") refl (of_text (state_visible 1)) tt))

of_ended : (by : Endpoint) (ended : EndedValue) → IsHow ended.how → HaveTexts (ended_members by ended)
of_ended by ended is =
    field (codes "packet") refl (of_number ended.moment.packet)
    (of_both (time_members ended.moment.second ended.moment.micro) (endpoint_members (codes "by") (codes "by_port") by ++ how_members ended.how)
    (of_time ended.moment.second ended.moment.micro)
    (of_both (endpoint_members (codes "by") (codes "by_port") by) (how_members ended.how) (of_endpoint (codes "by") (codes "by_port") refl refl by) (of_how ended.how is)))

of_end : (session : Session) (opening : Opening) (ended : Option EndedValue) → IsEndIfAny ended → HaveTexts (end_members session opening ended)
of_end session opening None is = field (codes "open") refl tt tt
of_end session opening (Some ended) is =
    let by = endpoint_of ended.by session opening in
    field (codes "ended") refl (of_object (ended_members by ended) (of_ended by ended is.how)) tt

-- ---- a connection

pub of_opening : (session : Session) (opening : Opening) → HaveTexts (opening_members session opening)
of_opening session opening =
    let from = endpoint_of opening.opened_by session opening in
    let to = endpoint_of (other_side opening.opened_by) session opening in
    field (codes "connection") refl (of_number opening.number)
    (of_both (ends_members session opening) (first_members opening)
    (of_both (endpoint_members (codes "from") (codes "from_port") from) (endpoint_members (codes "to") (codes "to_port") to)
    (of_endpoint (codes "from") (codes "from_port") refl refl from) (of_endpoint (codes "to") (codes "to_port") refl refl to))
    (of_both (time_members opening.second opening.micro) ((codes "packet", number_of opening.packet) ∷ []) (of_time opening.second opening.micro)
    (field (codes "packet") refl (of_number opening.packet) tt)))

pub of_outlined : (session : Session) (opening : Opening) (outline : OutlineValue) (first second : ℕ) → IsOutline outline
    → HaveTexts (outlined_members session opening outline first second)
of_outlined session opening outline first second is =
    let mine = as_of opening.opened_by outline in
    let its = as_of (other_side opening.opened_by) outline in
    of_both (as_members opening outline) (pair_members (codes "octets") first second ++ end_members session opening outline.ended)
    (of_both (number_members (codes "as") mine) (number_members (codes "to_as") its) (of_number_if (codes "as") refl mine) (of_number_if (codes "to_as") refl its))
    (of_both (pair_members (codes "octets") first second) (end_members session opening outline.ended) (of_pair (codes "octets") refl first second)
    (of_end session opening outline.ended is.ended))

-- ---- refusals and addresses

abbrev three_members : Refusal → List (List ℕ × Json)
three_members refusal =
    (codes "number", number_of (refusal_number refusal)) ∷ (codes "name", string (refusal_name refusal))
    ∷ (codes "packet", number_of (refusal_packet refusal)) ∷ []

of_three : (refusal : Refusal) → HaveTexts (three_members refusal)
of_three refusal =
    field (codes "number") refl (of_number (refusal_number refusal)) (field (codes "name") refl (of_text (word (refusal_name refusal) (name_word refusal)))
    (field (codes "packet") refl (of_number (refusal_packet refusal)) tt))

pub of_refused : (refusal : Refusal) → HaveTexts (refused_members refusal)
of_refused refusal = field (codes "refused") refl (of_object (three_members refusal) (of_three refusal)) tt

pub of_addresses : (addresses : Addresses) → HaveTexts (addresses_members addresses)
of_addresses addresses = field (codes "addresses") refl (of_any address_json of_address (addresses.from ∷ addresses.to ∷ [])) tt

-- ---- a capture's session

of_counts : (counts : Counts) → HaveTexts (counts_members counts)
of_counts counts =
    field (codes "received") refl (of_number counts.received) (field (codes "sent") refl (of_number counts.sent)
    (field (codes "changes") refl (of_number counts.changes) tt))

pub of_session : (addresses : sessions.Addresses) (named : List Located)
    → HaveTexts (session_addresses addresses ++ (counts_members (counts_in named) ++ seconds_members named))
of_session addresses named =
    of_both (session_addresses addresses) (counts_members (counts_in named) ++ seconds_members named)
    (field (codes "peer") refl (of_address addresses.peer) (field (codes "local") refl (of_address addresses.local) tt))
    (of_both (counts_members (counts_in named)) (seconds_members named) (of_counts (counts_in named)) (of_pair (codes "seconds") refl (first_second named) (last_second named)))
