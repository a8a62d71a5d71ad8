-- Numbers of 64 bits, in decimal, are numbers of JSON: those of each line's object.
use Rattle.std.proofs.Common.{◌++◌, ◌≤◌, ℕ, List, [], ◌∷◌, Option, None, Some, codes, nat_lt, arith, inl, inr}
use Rattle.std.proofs.lemmas.Bool.{cases_Bool, ltb-true}
use Rattle.std.proofs.lemmas.List.Elements.{All-cons, All-nil}
use Rattle.json.specs.Json.{Json, max_depth, string}
use Rattle.json.specs.Tree.{depth}
use Rattle.packets.specs.Fault as packets
use Rattle.packets.specs.declared.fault.FaultKind.{FaultKind}
use Rattle.packets.specs.declared.fault.FaultKind.TheVariants as kinds
use Rattle.segments.specs.declared.fault.PacketFault.{PacketFault}
use Rattle.segments.specs.declared.fault.PacketFault.TheVariants as packet_faults
use Rattle.streams.specs.declared.fault.Fault.{Fault}
use Rattle.streams.specs.declared.fault.Fault.TheVariants as faults
use Rattle.streams.specs.declared.passed.Side.{Side}
use Rattle.streams.specs.declared.passed.Side.TheVariants.{Local, Peer}
use Rattle.bgp_prefix.specs.declared.session.Session.{Session}
use Rattle.streams.specs.declared.connection.Opening.{Opening}
use Rattle.bgp_import.specs.ListText.{other_side}
use Rattle.bgp_import.specs.Refusals.{refusal_name, refusal_number, refusal_packet}
use Rattle.bgp_import.specs.declared.refusal.Refusal.{Refusal}
use Rattle.bgp_import.specs.declared.refusal.Refusal.TheVariants as refusals
use Rattle.bgp_why.specs.declared.endpoint.Endpoint.{Endpoint}
use Rattle.bgp_json_values.specs.Objects.{array_of, number_of}
use Rattle.bgp_json_values.specs.Texts.{address_json}
use Rattle.bgp_json_values.specs.Times.{micro_members, time_members}
use Rattle.bgp_json.specs.Object.{typed}
use Rattle.bgp_ended.specs.Values.{EndedValue, HowValue, Notified, Closed, Fallen, OutlineValue}
use Rattle.bgp_list.specs.ConnectionJson.{addresses_members, as_members, ends_members, first_members, opening_members, outlined_members, refused_json, refused_members}
use Rattle.bgp_list.specs.Connections.{as_of, endpoint_of}
use Rattle.bgp_list.specs.EndedJson.{end_members, ended_members, how_members}
use Rattle.bgp_list.specs.Forms.{line_json}
use Rattle.bgp_list.specs.JsonMembers.{endpoint_members, number_members}
use Rattle.bgp_list.specs.Lines.{LineValue, Octets, Refused, AllRefused}
use Rattle.bgp_list.proofs.Shallow.{line_shallow}
use Rattle.bgp_json_values.proofs.Depths.{object_depth}
use Rattle.bgp_json_laws.proofs.Decimals.{HasDecimals, HaveDecimals, of_array, of_both, of_number, of_object, of_texts}
use Rattle.bgp_json_laws.proofs.MessageDecimals.{of_error}
use Rattle.bgp_json_laws.proofs.Printing.{IsPrinted}
use Rattle.bgp_verdict_laws.specs.Numbers.{Fits, FitsIfAny}
use Rattle.bgp_list_laws.specs.Ranges.{IsEnd, IsEndIfAny, IsHow, IsLine, IsOpening, IsOutline, IsRefusal}

-- ---- members

pub number_fits : (key : List ℕ) (number : Option ℕ) → FitsIfAny number → HaveDecimals (number_members key number)
number_fits key None fits = tt
number_fits key (Some number) fits = (of_number number fits, tt)

micro_fits : (micro : Option ℕ) → HaveDecimals (micro_members micro)
micro_fits None = tt
micro_fits (Some micro) = elim (cases_Bool (nat_lt micro 1000000)) [
  | inl is ↦ let small = ltb-true micro 1000000 is in rw is (of_number micro (omega (arith, small)), tt)
  | inr isnt ↦ rw isnt tt
]

pub time_fits : (second : ℕ) (micro : Option ℕ) → Fits second → HaveDecimals (time_members second micro)
time_fits second micro fits = (of_number second fits, micro_fits micro)

pub pair_fits : (first second : ℕ) → Fits first → Fits second → HasDecimals (array_of number_of (first ∷ second ∷ []))
pair_fits first second is also =
    of_array number_of Fits of_number (first ∷ second ∷ []) (All-cons Fits first (second ∷ []) is (All-cons Fits second [] also (All-nil Fits)))

pub endpoint_fits : (key port_key : List ℕ) (end : Endpoint) → FitsIfAny end.port → HaveDecimals (endpoint_members key port_key end)
endpoint_fits key port_key end fits = (tt, number_fits port_key end.port fits)

port_fits : (side : Side) (session : Session) (opening : Opening) → IsOpening opening → FitsIfAny (endpoint_of side session opening).port
port_fits Local session opening is = is.local_port
port_fits Peer session opening is = is.peer_port

-- ---- an end

pub how_fits : (how : HowValue) → IsHow how → HaveDecimals (how_members how)
how_fits (Notified error) is = (tt, of_error error (is.code, is.subcode, is.detail))
how_fits (Closed closing) is = (tt, tt)
how_fits (Fallen state) is = (tt, (tt, (tt, tt)))

ended_fits : (by : Endpoint) (ended : EndedValue) → FitsIfAny by.port → IsEnd ended → HaveDecimals (ended_members by ended)
ended_fits by ended port is = (
  of_number ended.moment.packet is.packet,
  of_both (time_members ended.moment.second ended.moment.micro) (endpoint_members (codes "by") (codes "by_port") by ++ how_members ended.how)
      (time_fits ended.moment.second ended.moment.micro is.second)
      (of_both (endpoint_members (codes "by") (codes "by_port") by) (how_members ended.how) (endpoint_fits (codes "by") (codes "by_port") by port) (how_fits ended.how is.how)),
)

end_fits : (session : Session) (opening : Opening) (ended : Option EndedValue) → IsOpening opening → IsEndIfAny ended → HaveDecimals (end_members session opening ended)
end_fits session opening None is also = (tt, tt)
end_fits session opening (Some ended) is also =
    let by = endpoint_of ended.by session opening in
    (of_object (ended_members by ended) (ended_fits by ended (port_fits ended.by session opening is) also), tt)

-- ---- a connection

opening_fits : (session : Session) (opening : Opening) → IsOpening opening → HaveDecimals (opening_members session opening)
opening_fits session opening is =
    let from = endpoint_of opening.opened_by session opening in
    let to = endpoint_of (other_side opening.opened_by) session opening in (
      of_number opening.number is.number,
      of_both (ends_members session opening) (first_members opening)
          (of_both (endpoint_members (codes "from") (codes "from_port") from) (endpoint_members (codes "to") (codes "to_port") to)
          (endpoint_fits (codes "from") (codes "from_port") from (port_fits opening.opened_by session opening is))
          (endpoint_fits (codes "to") (codes "to_port") to (port_fits (other_side opening.opened_by) session opening is)))
          (of_both (time_members opening.second opening.micro) ((codes "packet", number_of opening.packet) ∷ []) (time_fits opening.second opening.micro is.second)
          (of_number opening.packet is.packet, tt)),
    )

as_fits : (side : Side) (outline : OutlineValue) → IsOutline outline → FitsIfAny (as_of side outline)
as_fits Local outline is = is.local_as
as_fits Peer outline is = is.peer_as

outlined_fits : (session : Session) (opening : Opening) (outline : OutlineValue) (first second : ℕ) → IsOpening opening → IsOutline outline → Fits first → Fits second
    → HaveDecimals (outlined_members session opening outline first second)
outlined_fits session opening outline first second is also one two =
    let mine = as_of opening.opened_by outline in
    let its = as_of (other_side opening.opened_by) outline in
    of_both (as_members opening outline) ((codes "octets", array_of number_of (first ∷ second ∷ [])) ∷ end_members session opening outline.ended)
    (of_both (number_members (codes "as") mine) (number_members (codes "to_as") its) (number_fits (codes "as") mine (as_fits opening.opened_by outline also))
    (number_fits (codes "to_as") its (as_fits (other_side opening.opened_by) outline also)))
    (pair_fits first second one two, end_fits session opening outline.ended is also.ended)

-- ---- a refusal

file_number : (kind : FaultKind) → Fits (packets.fault_number kind)
file_number kinds.Format = omega arith
file_number kinds.Truncated = omega arith
file_number kinds.TooLong = omega arith
file_number kinds.Block = omega arith
file_number kinds.Time = omega arith
file_number kinds.Device = omega arith
file_number kinds.Memory = omega arith

packet_number : (fault : PacketFault) (number : ℕ) → Fits (refusal_number (refusals.Packet fault number))
packet_number (packet_faults.Link link_type) number = omega arith
packet_number packet_faults.Fragment number = omega arith
packet_number packet_faults.Cut number = omega arith

connection_number : (fault : Fault) → Fits (refusal_number (refusals.Connection fault))
connection_number (faults.Cut number) = omega arith
connection_number (faults.TimeBack number) = omega arith
connection_number (faults.NoConnection number) = omega arith
connection_number (faults.Several number) = omega arith
connection_number (faults.NoStart number) = omega arith
connection_number (faults.Conflict number from place) = omega arith
connection_number (faults.Missing number from place) = omega arith
connection_number (faults.AfterReset number from place) = omega arith

refusal_number_fits : (refusal : Refusal) → Fits (refusal_number refusal)
refusal_number_fits (refusals.File fault) = file_number fault.kind
refusal_number_fits (refusals.Packet fault number) = packet_number fault number
refusal_number_fits (refusals.Connection fault) = connection_number fault
refusal_number_fits (refusals.Memory number) = omega arith
refusal_number_fits (refusals.RouteRefresh number from place) = omega arith

abbrev three_members : Refusal → List (List ℕ × Json)
three_members refusal =
    (codes "number", number_of (refusal_number refusal)) ∷ (codes "name", string (refusal_name refusal))
    ∷ (codes "packet", number_of (refusal_packet refusal)) ∷ []

three_fit : (refusal : Refusal) → IsRefusal refusal → HaveDecimals (three_members refusal)
three_fit refusal is = (of_number (refusal_number refusal) (refusal_number_fits refusal), (tt, (of_number (refusal_packet refusal) is, tt)))

refused_fits : (refusal : Refusal) → IsRefusal refusal → HaveDecimals (refused_members refusal)
refused_fits refusal is = (of_object (three_members refusal) (three_fit refusal is), tt)

-- ---- lines

pub typed_fits : (kind : List ℕ) (members : List (List ℕ × Json)) → HaveDecimals members → HasDecimals (typed kind members)
typed_fits kind members each = of_object ((codes "type", string kind) ∷ members) (tt, each)

line_fits : (line : LineValue) → IsLine line → HasDecimals (line_json line)
line_fits (Octets session opening outline first second) is =
    typed_fits (codes "connection") (opening_members session opening ++ outlined_members session opening outline first second)
    (of_both (opening_members session opening) (outlined_members session opening outline first second) (opening_fits session opening is.0)
    (outlined_fits session opening outline first second is.0 is.1 is.2 is.3))
line_fits (Refused session opening refusal) is =
    typed_fits (codes "connection") (opening_members session opening ++ refused_members refusal)
    (of_both (opening_members session opening) (refused_members refusal) (opening_fits session opening is.0) (refused_fits refusal is.1))
line_fits (AllRefused addresses refusal) is =
    typed_fits (codes "session") (addresses_members addresses ++ refused_members refusal)
    (of_texts address_json (λ a. tt) (addresses.from ∷ addresses.to ∷ []), refused_fits refusal is)

pub line_printed : (line : LineValue) → IsLine line → IsPrinted (line_json line)
line_printed line is = record { decimals = line_fits line is; shallow = line_shallow line }

-- the line of a recording that can't be read on
refused_shallow : (refusal : Refusal) → depth (refused_json refusal) ≤ max_depth
refused_shallow refusal =
    let d = object_depth 6 ((codes "type", string (codes "refused")) ∷ (codes "what", string (codes "recording")) ∷ three_members refusal)
    (omega arith, (omega arith, (omega arith, (omega arith, (omega arith, tt))))) in
    omega (arith, d)

pub refused_printed : (refusal : Refusal) → IsRefusal refusal → IsPrinted (refused_json refusal)
refused_printed refusal is = record {
  decimals = typed_fits (codes "refused") ((codes "what", string (codes "recording")) ∷ three_members refusal) (tt, three_fit refusal is);
  shallow = refused_shallow refusal;
}
