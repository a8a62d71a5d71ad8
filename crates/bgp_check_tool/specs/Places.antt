-- What is told of a recording, and where: each connection at its first packet, and two addresses of
-- whose connections none can be told at the first packet that is refused for them.
use Rattle.std.specs.Prelude.{◌≡◌, ℕ, List, reverse}
use Rattle.packets.specs.Packet.{Recorded}
use Rattle.segments.specs.declared.fault.PacketFault.{PacketFault}
use Rattle.segments.specs.declared.found.Addresses.{Addresses}
use Rattle.streams.specs.Passed.{Segment}
use Rattle.streams.specs.declared.connection.Opening.{Opening}
use Rattle.bgp_prefix.specs.declared.session.Session.{Session}
use Rattle.bgp_import.specs.declared.refusal.Refusal.{Refusal}
use Rattle.bgp_import.specs.declared.refusal.Refusal.TheVariants as refusals
use Rattle.bgp_import.specs.Pairs.{AreOrdered, session_of}
use Rattle.bgp_import.specs.Places.{HasConnection}
use Rattle.bgp_import.specs.Talks.{IsRefusedAt}
use Rattle.bgp_check_tool.specs.declared.options.CheckOptions.{CheckOptions}
use Rattle.bgp_check_tool.specs.Blocks.{Block, BothEnds, IsBlock, OneEnd, Refused, AllRefused}

-- The packets of a recording, which is checked so.
module _ (options : CheckOptions) (packets : List Recorded) where
  -- The block is told of it, at its first packet; in a recording whose last packet has this number.
  pub record IsToldOfOne (last_packet place : ℕ) (session : Session) (opening : Opening)
      (block : Block) : Type 0 where
    pub addresses : Addresses
    pub segments : List Segment
    pub has : HasConnection options.port packets addresses segments opening
    pub is_session : session ≡ session_of addresses
    pub is_place : place ≡ opening.packet
    pub is_block : IsBlock options last_packet (reverse segments) session opening block

  -- or of two addresses, at the first packet that is refused for them
  pub record IsToldOfAll (place : ℕ) (addresses : Addresses) (refusal : Refusal) : Type 0 where
    pub ordered : AreOrdered addresses
    pub fault : PacketFault
    pub refused : IsRefusedAt options.port packets addresses fault place
    pub is : refusal ≡ refusals.Packet fault place

  abbrev pub IsToldAt : ℕ → ℕ → Block → Type 0
  IsToldAt last_packet place (BothEnds session opening outline first second opener other) =
      IsToldOfOne last_packet place session opening
      (BothEnds session opening outline first second opener other)
  IsToldAt last_packet place (OneEnd session opening outline first second) =
      IsToldOfOne last_packet place session opening
      (OneEnd session opening outline first second)
  IsToldAt last_packet place (Refused session opening refusal) =
      IsToldOfOne last_packet place session opening (Refused session opening refusal)
  IsToldAt last_packet place (AllRefused addresses refusal) =
      IsToldOfAll place addresses refusal
