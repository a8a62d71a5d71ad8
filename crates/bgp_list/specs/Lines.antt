-- The lines of a list: connection by connection, and of two addresses at once where none of their
-- connections can be told.
use Rattle.std.specs.Prelude.{◌≡◌, ℕ, List, Option, None, Some, reverse}
use Rattle.bgp_prefix.specs.declared.session.Session.{Session}
use Rattle.packets.specs.Packet.{Recorded}
use Rattle.segments.specs.declared.fault.PacketFault.{PacketFault}
use Rattle.segments.specs.declared.found.Addresses.{Addresses}
use Rattle.streams.specs.Choice.{IsAnswered, IsRefused}
use Rattle.streams.specs.Connections.{numbered}
use Rattle.streams.specs.Passed.{Segment}
use Rattle.streams.specs.declared.connection.Connection.{Connection}
use Rattle.streams.specs.declared.connection.Opening.{Opening}
use Rattle.streams.specs.declared.fault.Fault.{Fault}
use Rattle.bgp_import.specs.ListText.{other_side}
use Rattle.bgp_import.specs.declared.refusal.Refusal.{Refusal}
use Rattle.bgp_import.specs.declared.refusal.Refusal.TheVariants as refusals
use Rattle.bgp_import.specs.Octets.{octets_from}
use Rattle.bgp_import.specs.Pairs.{AreOrdered, session_of}
use Rattle.bgp_import.specs.Places.{HasConnection}
use Rattle.bgp_import.specs.Talks.{IsRefusedAt}
use Rattle.bgp_ended.specs.Outline.{IsOutlineOf}
use Rattle.bgp_ended.specs.Values.{OutlineValue, outline_value}
use Rattle.bgp_list.specs.Connections.{connection_text, refused_between_text}
use Rattle.bgp_list.specs.Connections.{refused_connection_text}
use Rattle.bgp_list.specs.declared.line.Line.{Line}
use Rattle.bgp_list.specs.declared.line.Line.TheVariants as lines

-- ---- the values of a line, wherever the octets lie

pub data LineValue : Type 0 where
  -- a connection: what is known of it, how many octets whoever opened it sent, and how many the
  -- other
  Octets : Session → Opening → OutlineValue → ℕ → ℕ → LineValue
  -- a connection that is refused
  Refused : Session → Opening → Refusal → LineValue
  -- two addresses of whose connections none can be told
  AllRefused : Addresses → Refusal → LineValue

abbrev pub line_value : Line → LineValue
line_value (lines.Octets session opening outline first second) =
    Octets session opening (outline_value outline) first second
line_value (lines.Refused session opening refusal) = Refused session opening refusal
line_value (lines.AllRefused addresses refusal) = AllRefused addresses refusal

-- ---- the text

abbrev pub line_text : LineValue → List ℕ
line_text (Octets session opening outline first second) =
    connection_text session opening outline first second
line_text (Refused session opening refusal) = refused_connection_text session opening refusal
line_text (AllRefused addresses refusal) = refused_between_text addresses refusal

-- the refusal in a line, if there is one
abbrev pub refusal_in : LineValue → Option Refusal
refusal_in (Octets session opening outline first second) = None
refusal_in (Refused session opening refusal) = Some refusal
refusal_in (AllRefused addresses refusal) = Some refusal

-- ---- what a line tells

-- The connection of these segments, told from the last one back to the first, that was opened so;
-- in a recording whose last packet has this number.
module _ (last_packet : ℕ) (segments : List Segment) (opening : Opening) where
  -- it isn't refused, this is known of it, and whoever opened it sent so many octets, and the other
  -- so many
  pub record TellsOctets (outline : OutlineValue) (first second : ℕ) : Type 0 where
    pub connection : Connection
    pub chosen : IsAnswered (Some opening.number) last_packet (numbered segments) connection
    pub outlined : IsOutlineOf connection outline
    pub is_first : first ≡ octets_from opening.opened_by connection
    pub is_second : second ≡ octets_from (other_side opening.opened_by) connection

  -- or its segments spell no two streams
  pub record TellsRefusal (refusal : Refusal) : Type 0 where
    pub fault : Fault
    pub refused : IsRefused (Some opening.number) last_packet (numbered segments) fault
    pub is : refusal ≡ refusals.Connection fault

-- this is its line
abbrev pub IsLineOf : ℕ → List Segment → Session → Opening → LineValue → Type 0
IsLineOf last_packet segments session opening (Octets its its_opening outline first second) =
    (its ≡ session) × (its_opening ≡ opening)
    × TellsOctets last_packet segments opening outline first second
IsLineOf last_packet segments session opening (Refused its its_opening refusal) =
    (its ≡ session) × (its_opening ≡ opening)
    × TellsRefusal last_packet segments opening refusal
IsLineOf last_packet segments session opening (AllRefused addresses refusal) = ⊥

-- ---- where it stands

-- The packets of a recording, for a port; the last one has this number.
module _ (port : ℕ) (packets : List Recorded) (last_packet : ℕ) where
  -- that of a connection at its first packet
  pub record IsLineOfOne (place : ℕ) (session : Session) (opening : Opening) (line : LineValue)
      : Type 0 where
    pub addresses : Addresses
    pub segments : List Segment
    pub has : HasConnection port packets addresses segments opening
    pub is_session : session ≡ session_of addresses
    pub is_place : place ≡ opening.packet
    pub is_line : IsLineOf last_packet (reverse segments) session opening line

  -- that of two addresses at the first packet that is refused for them
  pub record IsLineOfAll (place : ℕ) (addresses : Addresses) (refusal : Refusal) : Type 0 where
    pub ordered : AreOrdered addresses
    pub fault : PacketFault
    pub refused : IsRefusedAt port packets addresses fault place
    pub is : refusal ≡ refusals.Packet fault place

  abbrev pub IsLineAt : ℕ → LineValue → Type 0
  IsLineAt place (Octets session opening outline first second) =
      IsLineOfOne place session opening (Octets session opening outline first second)
  IsLineAt place (Refused session opening refusal) =
      IsLineOfOne place session opening (Refused session opening refusal)
  IsLineAt place (AllRefused addresses refusal) = IsLineOfAll place addresses refusal
