-- What is found in a packet, by the type of its link and the octets that were kept.
use Rattle.std.specs.Prelude.{ℕ, List, Option, None, Some}
use Rattle.segments.specs.Link.{link_layer, packet_in}
use Rattle.segments.specs.Ip.{Payload, Other, FragmentOf, Tcp, payload_in}
use Rattle.segments.specs.Tcp.{found_of}
use Rattle.segments.specs.Segment.{Finding, Nothing, UnknownLink, Fragment}
use Rattle.segments.specs.declared.link.LinkLayer.{LinkLayer}

-- in what a packet of IP carries
abbrev pub found_in_payload : Payload → Finding
found_in_payload Other = Nothing
found_in_payload (FragmentOf addresses) = Fragment addresses
found_in_payload (Tcp addresses octets wire_count) = found_of addresses octets wire_count

-- in a packet of IP, if there is one
abbrev pub found_in_packet : Option (List ℕ) → Finding
found_in_packet None = Nothing
found_in_packet (Some octets) = found_in_payload (payload_in octets)

-- in a frame of a link of this type, if that is known
abbrev pub found_on : ℕ → Option LinkLayer → List ℕ → Finding
found_on link_type None octets = UnknownLink link_type
found_on link_type (Some layer) octets = found_in_packet (packet_in layer octets)

abbrev pub found_in : ℕ → List ℕ → Finding
found_in link_type octets = found_on link_type (link_layer link_type) octets
