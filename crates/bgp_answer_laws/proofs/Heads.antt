-- The first lines of a block: those of a list, which begin no answer.
use Rattle.std.proofs.Common.{◌++◌, ℕ, List, [], Option, None, Some, append_assoc, codes, length, refl, subst}
use Rattle.mrt.specs.Fault as mrt
use Rattle.mrt.specs.declared.fault.CaptureFault.{CaptureFault}
use Rattle.mrt.specs.declared.fault.FaultKind.{FaultKind as CaptureFaultKind}
use Rattle.mrt.specs.declared.fault.FaultKind.TheVariants as capture
use Rattle.mrt_sessions.specs.Counts.{counts_in}
use Rattle.mrt_sessions.specs.File.{Located}
use Rattle.mrt_sessions.specs.declared.addresses.Addresses as sessions
use Rattle.mrt_sessions.specs.declared.counts.Counts.{Counts}
use Rattle.packets.specs.declared.fault.FaultKind.{FaultKind}
use Rattle.packets.specs.declared.fault.FaultKind.TheVariants as kinds_of_file
use Rattle.segments.specs.declared.fault.PacketFault.{PacketFault}
use Rattle.segments.specs.declared.fault.PacketFault.TheVariants as packet_faults
use Rattle.segments.specs.declared.found.Addresses.{Addresses}
use Rattle.streams.specs.declared.connection.Opening.{Opening}
use Rattle.streams.specs.declared.fault.Fault.{Fault}
use Rattle.streams.specs.declared.fault.Fault.TheVariants as faults
use Rattle.streams.specs.declared.passed.Side.{Side}
use Rattle.bgp_prefix.specs.declared.session.Session.{Session}
use Rattle.bgp_import.specs.ListText.{other_side}
use Rattle.bgp_import.specs.Refusals.{refusal_name, refusal_number, refusal_packet}
use Rattle.bgp_import.specs.declared.refusal.Refusal.{Refusal}
use Rattle.bgp_import.specs.declared.refusal.Refusal.TheVariants as refusals
use Rattle.bgp_ended.specs.EndedLine.{ended_line, ended_stretch_line}
use Rattle.bgp_ended.specs.Stretch.{EndedStretchValue}
use Rattle.bgp_ended.specs.Values.{EndedValue, OutlineValue}
use Rattle.bgp_html.specs.declared.printed.Kind.TheVariants as kinds
use Rattle.bgp_list.specs.Causes.{capture_cause, cause_text, connection_cause, file_cause, packet_cause}
use Rattle.bgp_list.specs.Connections.{as_of, as_text, connection_text, end_line, endpoint_of, first_text, number_text, numbered_text, octets_text, opening_text, outlined_text, place_text, reason_text, refused_between_text, refused_connection_text, refused_text, side_text}
use Rattle.bgp_list.specs.Sessions as listed
use Rattle.bgp_list.specs.Sessions.{counts_text, fault_text, first_second, last_second, session_line, times_text}
use Rattle.bgp_why.specs.declared.endpoint.Endpoint.{Endpoint}
use Rattle.bgp_visible_laws.proofs.Refusals.{name_word}
use Rattle.bgp_visible_laws.proofs.Visible as visible
use Rattle.bgp_answer_laws.specs.Answers.{Says}
use Rattle.bgp_answer_laws.proofs.How.{who_and_how}
use Rattle.bgp_answer_laws.proofs.Lines.{IsPlain, IsWhole, behind, both, ends, none_both, says_aside, says_beside, says_nothing, word}
use Rattle.bgp_answer_laws.proofs.Plain.{plain}
use Rattle.bgp_answer_laws.proofs.Times.{address, end, number, short, when}

-- ---- a connection

number_plain : (opening : Opening) → IsPlain (number_text opening)
unfolding number_text
number_plain opening = both (word (codes "connection ") refl) (both (number opening.number) (word (codes ": ") refl))

first_plain : (opening : Opening) → IsPlain (first_text opening)
unfolding first_text
first_plain opening =
    both (word (codes " at ") refl) (both (when opening.second opening.micro) (both (word (codes " UTC, packet ") refl) (number opening.packet)))

pub as_plain : (its : Option ℕ) → IsPlain (as_text its)
as_plain None = word (codes "AS unknown") refl
as_plain (Some n) = both (word (codes "AS ") refl) (number n)

numbered_plain : (its : Endpoint) (as_number : Option ℕ) → IsPlain (numbered_text its as_number)
unfolding numbered_text
numbered_plain its as_number = both (end its) (both (word (codes " (") refl) (both (as_plain as_number) (word (codes ")") refl)))

side_plain : (side : Side) (session : Session) (opening : Opening) (outline : OutlineValue) → IsPlain (side_text side session opening outline)
side_plain side session opening outline = numbered_plain (endpoint_of side session opening) (as_of side outline)

outlined_plain : (session : Session) (opening : Opening) (outline : OutlineValue) → IsPlain (outlined_text session opening outline)
unfolding outlined_text
outlined_plain session opening outline =
    both (number_plain opening) (both (side_plain opening.opened_by session opening outline) (both (word (codes " to ") refl)
    (both (side_plain (other_side opening.opened_by) session opening outline) (first_plain opening))))

octets_whole : (first second : ℕ) → IsWhole (octets_text first second)
unfolding octets_text
octets_whole first second =
    behind (word (codes ", octets sent ") refl) (behind (number first) (behind (word (codes " and ") refl) (ends (number second))))

line_says : (session : Session) (opening : Opening) (outline : OutlineValue) (first second : ℕ) → Says (outlined_text session opening outline ++ octets_text first second) []
unfolding outlined_text number_text
line_says session opening outline first second =
    says_aside kinds.Connection refl refl (outlined_text session opening outline ++ octets_text first second)
    (behind (outlined_plain session opening outline) (octets_whole first second)) refl

ended_says : (first : ℕ) (by : Endpoint) (ended : EndedValue) → Says (ended_line first by ended) []
unfolding ended_line
ended_says first by ended =
    says_beside (ended_line first by ended)
    (behind (word (codes "  ended at packet ") refl) (behind (number ended.moment.packet) (behind (word (codes ", ") refl)
    (behind (short first ended.moment.second ended.moment.micro) (who_and_how ended.how by))))) refl

pub ended_stretch_says : (first count : ℕ) (micro : Option ℕ) (by : Endpoint) (ended : EndedStretchValue) → Says (ended_stretch_line first count micro by ended) []
unfolding ended_stretch_line
ended_stretch_says first count micro by ended =
    says_beside (ended_stretch_line first count micro by ended)
    (behind (word (codes "  ended at record ") refl) (behind (number count) (behind (word (codes ", ") refl)
    (behind (short first ended.second micro) (who_and_how ended.how by))))) refl

end_says : (session : Session) (opening : Opening) (ended : Option EndedValue) → Says (end_line session opening ended) []
end_says session opening None = says_beside (codes "  open at the end of the file\n") (ends (word (codes "  open at the end of the file") refl)) refl
end_says session opening (Some ended) = ended_says opening.second (endpoint_of ended.by session opening) ended

pub connection_says : (session : Session) (opening : Opening) (outline : OutlineValue) (first second : ℕ) → Says (connection_text session opening outline first second) []
unfolding connection_text
connection_says session opening outline first second =
    subst (λ (t : List ℕ). Says t []) (append_assoc (outlined_text session opening outline) (octets_text first second) (end_line session opening outline.ended))
    (none_both (line_says session opening outline first second) (end_says session opening outline.ended))

-- ---- a refusal

file_plain : (kind : FaultKind) → IsPlain (file_cause kind)
file_plain kinds_of_file.Format = word _ refl
file_plain kinds_of_file.Truncated = word _ refl
file_plain kinds_of_file.TooLong = word _ refl
file_plain kinds_of_file.Block = word _ refl
file_plain kinds_of_file.Time = word _ refl
file_plain kinds_of_file.Device = word _ refl
file_plain kinds_of_file.Memory = word _ refl

packet_plain : (fault : PacketFault) → IsPlain (packet_cause fault)
packet_plain (packet_faults.Link link_type) = word _ refl
packet_plain packet_faults.Fragment = word _ refl
packet_plain packet_faults.Cut = word _ refl

fault_plain : (fault : Fault) → IsPlain (connection_cause fault)
fault_plain (faults.Cut n) = word _ refl
fault_plain (faults.TimeBack n) = word _ refl
fault_plain (faults.NoConnection n) = word _ refl
fault_plain (faults.Several n) = word _ refl
fault_plain (faults.NoStart n) = word _ refl
fault_plain (faults.Conflict n from place) = word _ refl
fault_plain (faults.Missing n from place) = word _ refl
fault_plain (faults.AfterReset n from place) = word _ refl

cause_plain : (refusal : Refusal) → IsPlain (cause_text refusal)
cause_plain (refusals.File fault) = file_plain fault.kind
cause_plain (refusals.Packet fault n) = packet_plain fault
cause_plain (refusals.Connection fault) = fault_plain fault
cause_plain (refusals.Memory n) = word _ refl
cause_plain (refusals.RouteRefresh n from place) = word _ refl

reason_whole : (refusal : Refusal) → IsWhole (reason_text refusal)
unfolding reason_text
reason_whole refusal =
    behind (word (codes ": ") refl) (behind (number (refusal_number refusal)) (behind (word (codes " ") refl)
    (behind (plain (visible.word (refusal_name refusal) (name_word refusal))) (behind (word (codes ", ") refl) (ends (cause_plain refusal))))))

place_plain : (refusal : Refusal) → IsPlain (place_text refusal)
unfolding place_text
place_plain refusal = both (word (codes "refused at packet ") refl) (number (refusal_packet refusal))

pub refused_says : (refusal : Refusal) → Says (refused_text refusal) []
unfolding refused_text place_text
refused_says refusal = says_aside kinds.Whole refl refl (refused_text refusal) (behind (place_plain refusal) (reason_whole refusal)) refl

opening_plain : (session : Session) (opening : Opening) → IsPlain (opening_text session opening)
unfolding opening_text
opening_plain session opening =
    both (number_plain opening) (both (end (endpoint_of opening.opened_by session opening)) (both (word (codes " to ") refl)
    (both (end (endpoint_of (other_side opening.opened_by) session opening)) (first_plain opening))))

opening_says : (session : Session) (opening : Opening) → Says (opening_text session opening ++ codes "\n") []
unfolding opening_text number_text
opening_says session opening = says_aside kinds.Connection refl refl (opening_text session opening ++ codes "\n") (ends (opening_plain session opening)) refl

pub refused_connection_says : (session : Session) (opening : Opening) (refusal : Refusal) → Says (refused_connection_text session opening refusal) []
unfolding refused_connection_text
refused_connection_says session opening refusal =
    subst (λ (t : List ℕ). Says t []) (append_assoc (opening_text session opening) (codes "\n") (refused_text refusal))
    (none_both (opening_says session opening) (refused_says refusal))

pub refused_between_says : (addresses : Addresses) (refusal : Refusal) → Says (refused_between_text addresses refusal) []
unfolding refused_between_text place_text
refused_between_says addresses refusal =
    says_aside kinds.Whole refl refl (refused_between_text addresses refusal)
    (behind (place_plain refusal) (behind (word (codes ", between ") refl) (behind (address addresses.from) (behind (word (codes " and ") refl)
    (behind (address addresses.to) (reason_whole refusal)))))) refl

-- ---- a session

counts_plain : (counts : Counts) → IsPlain (counts_text counts)
unfolding counts_text
counts_plain counts =
    both (word (codes "received ") refl) (both (number counts.received) (both (word (codes ", sent ") refl) (both (number counts.sent)
    (both (word (codes ", changes of state ") refl) (number counts.changes)))))

times_plain : (first last : ℕ) → IsPlain (times_text first last)
unfolding times_text
times_plain first last = both (when first None) (both (word (codes " to ") refl) (both (short first last None) (word (codes " UTC") refl)))

pub session_says : (addresses : sessions.Addresses) (named : List Located) → Says (session_line addresses named) []
unfolding session_line
session_says addresses named =
    says_aside kinds.Connection refl refl (session_line addresses named)
    (behind (word (codes "session: ") refl) (behind (address addresses.local) (behind (word (codes " with peer ") refl) (behind (address addresses.peer)
    (behind (word (codes ", ") refl) (behind (times_plain (first_second named) (last_second named)) (behind (word (codes ", records ") refl)
    (behind (number (length named)) (behind (word (codes ": ") refl) (ends (counts_plain (counts_in named)))))))))))) refl

kind_plain : (kind : CaptureFaultKind) → IsPlain (capture_cause kind)
kind_plain capture.Truncated = word _ refl
kind_plain capture.TooLong = word _ refl
kind_plain capture.Body = word _ refl
kind_plain capture.BadState = word _ refl
kind_plain capture.NotAMessage = word _ refl
kind_plain capture.TimeBack = word _ refl
kind_plain capture.RouteRefresh = word _ refl
kind_plain capture.AddPath = word _ refl
kind_plain capture.Device = word _ refl
kind_plain capture.Memory = word _ refl

name_plain : (kind : CaptureFaultKind) → IsPlain (mrt.fault_name kind)
name_plain capture.Truncated = word _ refl
name_plain capture.TooLong = word _ refl
name_plain capture.Body = word _ refl
name_plain capture.BadState = word _ refl
name_plain capture.NotAMessage = word _ refl
name_plain capture.TimeBack = word _ refl
name_plain capture.RouteRefresh = word _ refl
name_plain capture.AddPath = word _ refl
name_plain capture.Device = word _ refl
name_plain capture.Memory = word _ refl

stopped_says : (fault : CaptureFault) → Says (listed.refused_text fault) []
unfolding listed.refused_text
stopped_says fault =
    says_aside kinds.Whole refl refl (listed.refused_text fault)
    (behind (word (codes "refused at octet ") refl) (behind (number fault.offset) (behind (word (codes ": ") refl) (behind (number (mrt.fault_number fault.kind))
    (behind (word (codes " ") refl) (behind (name_plain fault.kind) (behind (word (codes ", ") refl) (ends (kind_plain fault.kind))))))))) refl

pub fault_says : (fault : Option CaptureFault) → Says (fault_text fault) []
fault_says None = says_nothing
fault_says (Some fault) = stopped_says fault
