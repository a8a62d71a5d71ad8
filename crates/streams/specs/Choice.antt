-- The connection that is asked for, and what is told of it.
use Rattle.std.specs.Prelude.{ℕ, ◌≡◌, ◌-◌, ◌⊎◌, ◌&&◌, List, [], ◌∷◌, Option, Some, None, cond}
use Rattle.std.specs.Prelude.{Result, Ok, Err, nat_lt, nat_le, length, get_or}
use Rattle.std.specs.Option.{option_or, unwrap_or}
use Rattle.streams.specs.declared.connection.Connection.{Connection}
use Rattle.std.specs.Prelude.{◌<◌, ◌≤◌}
use Rattle.std.specs.List.{AllByRecursion}
use Rattle.streams.specs.declared.connection.Opening.{Opening}
use Rattle.streams.specs.declared.connection.Stream.{Stream}
use Rattle.streams.specs.declared.fault.Fault.{Fault}
use Rattle.streams.specs.declared.fault.Fault.TheVariants as faults
use Rattle.streams.specs.declared.passed.Side.{Side}
use Rattle.streams.specs.declared.passed.Side.TheVariants.{Local, Peer}
use Rattle.streams.specs.Given.{known_at, total}
use Rattle.streams.specs.Passed.{Segment}
use Rattle.streams.specs.History.{given_of, next_of}
use Rattle.streams.specs.Refusals.{first_fault, half_of, missing_of}
use Rattle.streams.specs.Sent.{half_shown, missing}
use Rattle.streams.specs.Connections.{first_in, opener_of, end_of_connection}

-- the first packet of a connection
abbrev pub first_packet : List Segment → ℕ
first_packet [] = 0
first_packet (s ∷ before) = (first_in s before).packet

-- the number that is asked for, counted from 1, or that of the only connection
abbrev pub chosen_of : Option ℕ → ℕ → List (List Segment) → Result ℕ Fault
chosen_of (Some number) last_packet connections =
    cond (nat_lt 0 number && nat_le number (length connections))
    (Ok number) (Err (faults.NoConnection last_packet))
chosen_of None last_packet [] = Err (faults.NoConnection last_packet)
chosen_of None last_packet (connection ∷ []) = Ok 1
chosen_of None last_packet (connection ∷ second ∷ more) =
    Err (faults.Several (first_packet second))

-- the refusal of a connection: the first of its segments', or else at its end: of half a
-- connection, or of what is missing
abbrev pub refusal_of : List Segment → Option Fault
refusal_of segments = option_or (first_fault segments)
    (option_or (half_of (half_shown Peer segments) (half_shown Local segments))
    (missing_of (missing Peer segments) (missing Local segments)
    (next_of Peer segments) (next_of Local segments)))

-- the stream is the octets given from the first on, up to the first that isn't, by the packets that
-- gave them first: none of its runs is empty
pub record IsStreamOf (side : Side) (segments : List Segment) (stream : Stream) : Type 0 where
  pub count : length stream.octets.now ≡ next_of side segments
  pub given : (place : ℕ) → place < length stream.octets.now →
      known_at stream.octets.now stream.runs.now place ≡ given_of side segments place
  pub covered : total stream.runs.now ≡ length stream.octets.now
  pub counted : AllByRecursion (λ run. 1 ≤ run.count) stream.runs.now

-- what is told of a connection of these segments, the first of which is `first`
pub record TellsOf (first : Segment) (segments : List Segment) (connection : Connection) : Type 0
  where
    pub local_port : connection.local_port ≡ first.local_port
    pub peer_port : connection.peer_port ≡ first.peer_port
    pub opened_by : connection.opened_by ≡ unwrap_or (opener_of segments) first.sender
    pub packet : connection.packet ≡ first.packet
    pub second : connection.second ≡ first.second
    pub micro : connection.micro ≡ first.micro
    pub received : IsStreamOf Peer segments connection.received
    pub sent : IsStreamOf Local segments connection.sent
    pub end : connection.end ≡ end_of_connection segments

abbrev pub Tells : List Segment → Connection → Type 0
Tells [] connection = ⊥
Tells (s ∷ before) connection = TellsOf (first_in s before) (s ∷ before) connection

-- the connection with this number, counted from 1
abbrev pub numbered_one : List (List Segment) → ℕ → List Segment
numbered_one connections number = get_or connections (number - 1) []

-- what is answered is the connection that was asked for, which isn't refused
pub record IsAnswered (number : Option ℕ) (last_packet : ℕ) (connections : List (List Segment))
    (connection : Connection) : Type 0 where
  pub chosen : chosen_of number last_packet connections ≡ Ok connection.number
  pub fine : refusal_of (numbered_one connections connection.number) ≡ None
  pub tells : Tells (numbered_one connections connection.number) connection

-- the connection that was asked for isn't there, or is refused
abbrev pub IsRefused : Option ℕ → ℕ → List (List Segment) → Fault → Type 0
IsRefused number last_packet connections fault =
    (chosen_of number last_packet connections ≡ Err fault)
    ⊎ ((n : ℕ) × (chosen_of number last_packet connections ≡ Ok n)
    × (refusal_of (numbered_one connections n) ≡ Some fault))

-- no connection has this number
abbrev pub IsNoNumber : ℕ → List (List Segment) → Type 0
IsNoNumber number connections = (number ≡ 0) ⊎ (length connections < number)

-- what is told of a connection without its streams
pub record OpensAsOf (first : Segment) (segments : List Segment) (opening : Opening) : Type 0 where
  pub local_port : opening.local_port ≡ first.local_port
  pub peer_port : opening.peer_port ≡ first.peer_port
  pub opened_by : opening.opened_by ≡ unwrap_or (opener_of segments) first.sender
  pub packet : opening.packet ≡ first.packet
  pub second : opening.second ≡ first.second
  pub micro : opening.micro ≡ first.micro

abbrev pub OpensAs : List Segment → Opening → Type 0
OpensAs [] opening = ⊥
OpensAs (s ∷ before) opening = OpensAsOf (first_in s before) (s ∷ before) opening
