-- What is written is an UPDATE of the fields that were to be written.
use Rattle.std.proofs.Common.{◌≡◌, ◌+◌, ◌≤◌, ◌++◌, length, length-append, arith}
use Rattle.byteorder.specs.Endian.{big_bytes}
use Rattle.bgp_wire.specs.Message.{message_octets}
use Rattle.bgp_wire.proofs.WrittenMessage.{written_message, body_of-message_octets}
use Rattle.bgp_update.specs.Sections.{Sections, section_octets, IsUpdate}

pub length-section_octets : (s : Sections) → length (section_octets s) ≡ 4 + length s.withdrawn + length s.attributes + length s.nlri
length-section_octets s =
    omega (arith, length-append s.withdrawn (big_bytes 2 (length s.attributes) ++ (s.attributes ++ s.nlri)), length-append s.attributes s.nlri)

pub written_update : (s : Sections) → 19 + length (section_octets s) ≤ 65535 → IsUpdate (message_octets 2 (section_octets s)) s
written_update s fits = record {
  message = written_message 2 (section_octets s) (omega arith);
  body = body_of-message_octets 2 (section_octets s);
  withdrawn_length = omega (arith, length-section_octets s);
  attributes_length = omega (arith, length-section_octets s);
}
