-- The object of a recording that is refused has nothing hidden.
use Rattle.std.proofs.Common.{◌≡◌, ◌++◌, ℕ, true, ◌∷◌, Option, None, Some, codes, refl}
use Rattle.packets.specs.Fault as file
use Rattle.packets.specs.declared.fault.FaultKind.{FaultKind}
use Rattle.packets.specs.declared.fault.FaultKind.TheVariants as kinds
use Rattle.segments.specs.Fault as packet
use Rattle.segments.specs.declared.fault.PacketFault.{PacketFault}
use Rattle.segments.specs.declared.fault.PacketFault.TheVariants as packets
use Rattle.streams.specs.Fault as connection
use Rattle.streams.specs.declared.fault.Fault.{Fault}
use Rattle.streams.specs.declared.fault.Fault.TheVariants as faults
use Rattle.bgp_values.specs.declared.opens.Direction.{Direction}
use Rattle.bgp_import.specs.Refusals.{refusal_name, refusal_number, refusal_packet}
use Rattle.bgp_import.specs.declared.refusal.Refusal.{Refusal}
use Rattle.bgp_import.specs.declared.refusal.Refusal.TheVariants as refusals
use Rattle.bgp_json_values.specs.Objects.{number_of}
use Rattle.bgp_json.specs.Others.{octet_members, recording_json, refusal_members}
use Rattle.bgp_visible_laws.specs.JsonLaws.{JsonRecordingsAreVisible}
use Rattle.bgp_visible_laws.proofs.JsonLines.{line_of, of_direction, typed_texts}
use Rattle.bgp_visible_laws.proofs.JsonTexts.{AreTexts, HaveTexts, field, of_number, of_text}
use Rattle.bgp_visible_laws.proofs.Visible.{is_word, word}

-- ---- names

file_word : (kind : FaultKind) → is_word (file.fault_name kind) ≡ true
file_word kinds.Format = refl
file_word kinds.Truncated = refl
file_word kinds.TooLong = refl
file_word kinds.Block = refl
file_word kinds.Time = refl
file_word kinds.Device = refl
file_word kinds.Memory = refl

packet_word : (fault : PacketFault) → is_word (packet.fault_name fault) ≡ true
packet_word (packets.Link link_type) = refl
packet_word packets.Fragment = refl
packet_word packets.Cut = refl

connection_word : (fault : Fault) → is_word (connection.fault_name fault) ≡ true
connection_word (faults.Cut number) = refl
connection_word (faults.TimeBack number) = refl
connection_word (faults.NoConnection number) = refl
connection_word (faults.Several number) = refl
connection_word (faults.NoStart number) = refl
connection_word (faults.Conflict number from place) = refl
connection_word (faults.Missing number from place) = refl
connection_word (faults.AfterReset number from place) = refl

pub name_word : (refusal : Refusal) → is_word (refusal_name refusal) ≡ true
name_word (refusals.File fault) = file_word fault.kind
name_word (refusals.Packet fault number) = packet_word fault
name_word (refusals.Connection fault) = connection_word fault
name_word (refusals.Memory number) = refl
name_word (refusals.RouteRefresh number from place) = refl

-- ---- the object

of_octet : (octet : Option (Direction × ℕ)) → HaveTexts (octet_members octet)
of_octet None = tt
of_octet (Some octet) = field (codes "direction") refl (of_direction octet.0) (field (codes "octet") refl (of_number octet.1) tt)

pub recording_texts : (refusal : Refusal) (octet : Option (Direction × ℕ))
    → AreTexts (recording_json (refusal_number refusal) (refusal_name refusal) (refusal_packet refusal) octet)
recording_texts refusal octet =
    typed_texts (codes "refused") refl
    (refusal_members (codes "recording") (refusal_number refusal) (refusal_name refusal) ++ (codes "packet", number_of (refusal_packet refusal)) ∷ octet_members octet)
    (field (codes "what") refl (of_text (word (codes "recording") refl)) (field (codes "number") refl (of_number (refusal_number refusal))
    (field (codes "name") refl (of_text (word (refusal_name refusal) (name_word refusal)))
    (field (codes "packet") refl (of_number (refusal_packet refusal)) (of_octet octet)))))

pub json_recordings : JsonRecordingsAreVisible
json_recordings refusal octet =
    line_of (recording_json (refusal_number refusal) (refusal_name refusal) (refusal_packet refusal) octet) _ refl (recording_texts refusal octet)
