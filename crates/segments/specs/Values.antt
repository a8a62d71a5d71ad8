-- What the reader's functions answer, as values.
use Rattle.std.specs.Prelude.{◌≤◌, ℕ, List, length}
use Rattle.segments.specs.Ip as ip
use Rattle.segments.specs.Link.{Carried}
use Rattle.segments.specs.declared.link.Carried as declared_link
use Rattle.segments.specs.Ip.{Extension, Passed, Transport, Fragmented, Unknown}
use Rattle.segments.specs.Tcp as tcp
use Rattle.segments.specs.declared.ip.Payload.{Payload}
use Rattle.segments.specs.declared.ip.Payload.TheVariants as payloads
use Rattle.segments.specs.declared.ip.Extension as declared
use Rattle.segments.specs.declared.ip.Extension.TheVariants as extensions
use Rattle.segments.specs.declared.ip.Ipv4Header.{Ipv4Header}
use Rattle.segments.specs.declared.ip.Ipv6Header.{Ipv6Header}
use Rattle.segments.specs.declared.tcp.TcpHeader.{TcpHeader}

abbrev pub carried_value : declared_link.Carried → Carried
carried_value carried = record {
  ether_type = carried.ether_type;
  octets = carried.octets.now;
}

abbrev pub ipv4_value : Ipv4Header → ip.Ipv4Header
ipv4_value header = record {
  header_len = header.header_len;
  total_len = header.total_len;
  is_fragment = header.is_fragment;
  protocol = header.protocol;
  addresses = header.addresses;
}

abbrev pub ipv6_value : Ipv6Header → ip.Ipv6Header
ipv6_value header = record {
  payload_len = header.payload_len;
  next_header = header.next_header;
  addresses = header.addresses;
}

abbrev pub extension_value : declared.Extension → Extension
extension_value extensions.Transport = Transport
extension_value extensions.Fragmented = Fragmented
extension_value (extensions.Passed len) = Passed len
extension_value extensions.Unknown = Unknown

-- what is passed over is there, and isn't nothing
abbrev pub IsWithin : Extension → List ℕ → Type 0
IsWithin Transport octets = Unit {0}
IsWithin Fragmented octets = Unit {0}
IsWithin (Passed len) octets = (8 ≤ len) × (len ≤ length octets)
IsWithin Unknown octets = Unit {0}

abbrev pub payload_value : Payload → ip.Payload
payload_value payloads.Other = ip.Other
payload_value (payloads.Fragment addresses) = ip.FragmentOf addresses
payload_value (payloads.Tcp tcp) = ip.Tcp tcp.addresses tcp.octets.now tcp.wire_count

abbrev pub tcp_value : TcpHeader → tcp.TcpHeader
tcp_value header = record {
  sequence = header.sequence;
  acknowledgment = header.acknowledgment;
  header_len = header.header_len;
  control = header.control;
}
