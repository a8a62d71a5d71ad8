-- What is held of a connection.
use Rattle.std.specs.Prelude.{ℕ, ◌≡◌, List, [], ◌∷◌, Option, Some, None, cond, ◌&&◌, ◌||◌}
use Rattle.std.specs.Prelude.{nat_lt, length, not}
use Rattle.std.specs.Option.{option_or, is_none, unwrap_or}
use Rattle.streams.specs.declared.fault.Fault.{Fault}
use Rattle.streams.specs.declared.fault.Fault.TheVariants as faults
use Rattle.streams.specs.declared.passed.Side.{Side}
use Rattle.streams.specs.declared.passed.Side.TheVariants.{Local, Peer}
use Rattle.streams.specs.declared.direction.Direction.{Direction}
use Rattle.streams.specs.declared.gathering.Gathering.{Gathering}
use Rattle.streams.specs.declared.connection.Connection.{Connection}
use Rattle.streams.specs.declared.connection.Opening.{Opening}
use Rattle.streams.specs.Given.{given_at}
use Rattle.streams.specs.Islands.{IsSound}
use Rattle.streams.specs.Passed.{Segment, is_side}
use Rattle.streams.specs.History.{start_of, piece_in}
use Rattle.streams.specs.Refusals.{cut, first_fault, half_of, missing_of}
use Rattle.streams.specs.Places.{shown_by_acknowledgment}
use Rattle.streams.specs.Directions.{Holds, piece_faults, Adds, Acknowledges, half_in, missing_in}
use Rattle.streams.specs.Connections.{opener_of, end_of_connection, has_octets, has_data}
use Rattle.streams.specs.Connections.{has_others}
use Rattle.streams.specs.Connections.{opener_by, end_by}

-- both directions are held as they have to be
pub record AreSound {Z : Type 0} (gathering : Gathering Z) : Type 0 where
  pub sent : IsSound gathering.sent.gathered
  pub received : IsSound gathering.received.gathered

abbrev pub start_in : {Z : Type 0} → Side → Gathering Z → Option ℕ
start_in Local gathering = gathering.local_start
start_in Peer gathering = gathering.peer_start

-- the refusal of a segment whose second is below the one before
abbrev pub late : Segment → ℕ → Option Fault
late s last_second = cond (nat_lt s.second last_second) (Some (faults.TimeBack s.packet)) None

-- the refusal of a segment of a side without a SYN
abbrev pub unstarted : Segment → Option ℕ → Option Fault
unstarted s start = cond ((nat_lt 0 (length s.octets) || s.fin) && is_none start)
    (Some (faults.NoStart s.packet)) None

abbrev pub direction_faults : {Z : Type 0} → Segment → Option ℕ → Direction Z → Option Fault
direction_faults s start direction = piece_faults s
    (piece_in s start (length direction.gathered.known.octets.items) direction.acknowledged)
    (given_at direction.gathered) direction.fin direction.end direction.has_rst

abbrev pub direction_in : {Z : Type 0} → Side → Gathering Z → Direction Z
direction_in Local gathering = gathering.sent
direction_in Peer gathering = gathering.received

-- the first refusal of a segment after what is held
abbrev pub gathering_faults : {Z : Type 0} → Segment → Option ℕ → Gathering Z → Option Fault
gathering_faults s start gathering = option_or (cut s) (option_or (late s gathering.last_second)
    (option_or (unstarted s start)
    (direction_faults s start (direction_in s.sender gathering))))

-- the connection begins with this segment
pub record IsOf {Z : Type 0} (s : Segment) (gathering : Gathering Z) : Type 0 where
  pub local_port : gathering.local_port ≡ s.local_port
  pub peer_port : gathering.peer_port ≡ s.peer_port
  pub packet : gathering.packet ≡ s.packet
  pub first_from : gathering.first_from ≡ s.sender
  pub second : gathering.second ≡ s.second
  pub micro : gathering.micro ≡ s.micro

abbrev pub last_second_of : List Segment → ℕ
last_second_of [] = 0
last_second_of (last ∷ before) = last.second

-- what is held is what the segments of the connection tell
pub record HoldsConnection {Z : Type 0} (segments : List Segment) (gathering : Gathering Z)
    : Type 0 where
  pub sound : AreSound gathering
  pub opener : gathering.opener ≡ opener_of segments
  pub local_start : gathering.local_start ≡ start_of Local segments
  pub peer_start : gathering.peer_start ≡ start_of Peer segments
  pub last_second : gathering.last_second ≡ last_second_of segments
  pub has_octets : gathering.has_octets ≡ has_octets segments
  pub has_others : gathering.has_others ≡ has_others segments
  pub end : gathering.end ≡ end_of_connection segments
  pub fault : gathering.fault ≡ first_fault segments
  pub sent : gathering.fault ≡ None → Holds Local segments gathering.sent
  pub received : gathering.fault ≡ None → Holds Peer segments gathering.received

-- a segment has been noted, whose side's SYN has this number; nothing is gathered
abbrev pub noted : {Z : Type 0} → Segment → Option ℕ → Gathering Z → Gathering Z
noted s start g = record g {
  opener = option_or g.opener (opener_by s);
  local_start = cond (is_side s.sender Local) start g.local_start;
  peer_start = cond (is_side s.sender Peer) start g.peer_start;
  last_second = s.second;
  has_octets = g.has_octets || has_data s;
  has_others = g.has_others || not s.syn;
  end = option_or g.end (end_by s);
}

-- a direction has taken a segment that its side sent, and the other one what it acknowledges
pub record Gathers {Z : Type 0} (s : Segment) (start other : Option ℕ)
    (own acknowledged own' acknowledged' : Direction Z) : Type 0 where
  pub adds : Adds s
      (piece_in s start (length own.gathered.known.octets.items) own.acknowledged) own own'
  pub acknowledges : Acknowledges s (shown_by_acknowledgment other
      (length acknowledged.gathered.known.octets.items) s.acknowledgment s.rst)
      acknowledged acknowledged'

-- a segment has been gathered
abbrev pub HasGathered : {Z : Type 0} → Side → Segment → Option ℕ → Gathering Z → Direction Z
    → Direction Z → Type 0
HasGathered Local s start g sent received =
    Gathers s start g.peer_start g.sent g.received sent received
HasGathered Peer s start g sent received =
    Gathers s start g.local_start g.received g.sent received sent

-- the number of a side's SYN, once a segment of it has come
abbrev pub start_with : Option ℕ → Segment → Option ℕ
start_with start s = option_or start (cond s.syn (Some s.sequence) None)

-- the refusal of what is held
abbrev pub refusal_in : {Z : Type 0} → Gathering Z → Option Fault
refusal_in g = option_or g.fault
    (option_or (half_of (half_in g.peer_start g.received) (half_in g.local_start g.sent))
    (missing_of (missing_in g.received) (missing_in g.sent)
    (length g.received.gathered.known.octets.items) (length g.sent.gathered.known.octets.items)))

-- what of a connection is told without its streams
pub record Opens {Z : Type 0} (n : ℕ) (g : Gathering Z) (opening : Opening) : Type 0 where
  pub number : opening.number ≡ n
  pub local_port : opening.local_port ≡ g.local_port
  pub peer_port : opening.peer_port ≡ g.peer_port
  pub opened_by : opening.opened_by ≡ unwrap_or g.opener g.first_from
  pub packet : opening.packet ≡ g.packet
  pub second : opening.second ≡ g.second
  pub micro : opening.micro ≡ g.micro

-- what of a connection is told
pub record Shows {Z : Type 0} (n : ℕ) (g : Gathering Z) (connection : Connection) : Type 0
  where
    pub number : connection.number ≡ n
    pub local_port : connection.local_port ≡ g.local_port
    pub peer_port : connection.peer_port ≡ g.peer_port
    pub opened_by : connection.opened_by ≡ unwrap_or g.opener g.first_from
    pub packet : connection.packet ≡ g.packet
    pub second : connection.second ≡ g.second
    pub micro : connection.micro ≡ g.micro
    pub received_octets : connection.received.octets.now ≡ g.received.gathered.known.octets.items
    pub received_runs : connection.received.runs.now ≡ g.received.gathered.known.runs.items
    pub sent_octets : connection.sent.octets.now ≡ g.sent.gathered.known.octets.items
    pub sent_runs : connection.sent.runs.now ≡ g.sent.gathered.known.runs.items
    pub end : connection.end ≡ g.end
