-- A TCP segment (RFC 9293, 3.1), and the packet that held it.
use Rattle.std.specs.Prelude.{ℕ, List, Option, Bool, true, false}
use Rattle.streams.specs.declared.passed.Passed.{Passed}
use Rattle.streams.specs.declared.passed.Side.{Side}
use Rattle.streams.specs.declared.passed.Side.TheVariants.{Local, Peer}
use Rattle.streams.specs.declared.gathered.Giver.{Giver}

pub record Segment : Type 0 where
  pub packet : ℕ
  pub second : ℕ
  pub micro : Option ℕ
  pub sender : Side
  pub local_port : ℕ
  pub peer_port : ℕ
  pub sequence : ℕ
  pub syn : Bool
  pub fin : Bool
  pub rst : Bool
  pub acknowledgment : Option ℕ
  pub octets : List ℕ
  pub is_whole : Bool

abbrev pub segment_of : Passed → Segment
segment_of passed = record {
  packet = passed.packet;
  second = passed.second;
  micro = passed.micro;
  sender = passed.from;
  local_port = passed.local_port;
  peer_port = passed.peer_port;
  sequence = passed.sequence;
  syn = passed.syn;
  fin = passed.fin;
  rst = passed.rst;
  acknowledgment = passed.acknowledgment;
  octets = passed.octets.now;
  is_whole = passed.is_whole;
}

-- the packet that held it
abbrev pub giver_of : Segment → Giver
giver_of s = record { packet = s.packet; second = s.second; micro = s.micro }

abbrev pub is_side : Side → Side → Bool
is_side Local Local = true
is_side Local Peer = false
is_side Peer Local = false
is_side Peer Peer = true

abbrev pub other_side : Side → Side
other_side Local = Peer
other_side Peer = Local
