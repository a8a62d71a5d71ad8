-- What a speaker asks its wire next: one thing alone, by what it has in hand.
use Rattle.std.specs.Prelude.{ℕ, zero, suc, length, List, [], ◌∷◌, Bool, true, false, Option}
use Rattle.std.specs.Prelude.{None, Some}
use Rattle.bgp_speaker.specs.Core.{InputValue}
use Rattle.bgp_talk.specs.Account.{Telling, Asked, Read, Clock, Wrote}
use Rattle.bgp_talk.specs.CoreFacts.{is_resting}
use Rattle.bgp_talk.specs.Talk.{Standing, read_room}
use Rattle.bgp_talk.specs.declared.wire.Connection.{Connection}
use Rattle.bgp_talk.specs.declared.wire.Connection.TheVariants.{NotAsked, Stands, Refused}

-- a call of a wire, without its answer: to connect, to read with so much room, for the second, to
-- write so many octets
pub data Call : Type 0 where
  Connecting : Call
  Reading : ℕ → Call
  Timing : Call
  Writing : ℕ → Call

abbrev pub call_of : Telling → Call
call_of (Asked answer) = Connecting
call_of (Read room told) = Reading room
call_of (Clock second) = Timing
call_of (Wrote given octets) = Writing given

-- Where nothing is owed and all octets are written: to connect, once; then to read, while there is
-- a connection, the core doesn't rest, and a turn is left.
abbrev pub free_call : Connection → Bool → ℕ → Option Call
free_call NotAsked rests left = Some Connecting
free_call Refused rests left = None
free_call Stands true left = None
free_call Stands false zero = None
free_call Stands false (suc left) = Some (Reading read_room)

-- where inputs are owed, the second of the first one
abbrev pub owed_call : List InputValue → Option Call → Option Call
owed_call [] free = free
owed_call (input ∷ owed) free = Some Timing

-- where octets are to be sent, to write them all
abbrev pub unsent_call : List ℕ → Option Call → Option Call
unsent_call [] sent = sent
unsent_call (octet ∷ octets) sent = Some (Writing (length (octet ∷ octets)))

-- the octets come first, then what is owed
abbrev pub next_call : Standing → Option Call
next_call s =
    unsent_call s.unsent (owed_call s.owed (free_call s.connection (is_resting s.core) s.left))
