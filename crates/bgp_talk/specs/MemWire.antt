-- A wire in memory: what it holds, what each call does to it, and what it tells.
use Rattle.std.specs.Prelude.{◌≡◌, ℕ, ◌+◌, ◌-◌, ◌^◌, ◌==◌, min, List, [], ◌∷◌, ◌++◌, length, take}
use Rattle.std.specs.Prelude.{Bool, true, false, Option, None, Some, Result, Ok, IfOk, IsErr}
use Rattle.std.specs.Prelude.{if◌then◌else◌, slice_get}
use Rattle.std.proofs.Common.{refl, subst}
use Rattle.std.specs.Int.NonZero.{non_zero_usize_get}
use Rattle.mrt.specs.Failures.{failures_after}
use Rattle.mrt.specs.MemSink.{taken_by}
use Rattle.mrt.specs.declared.failure.Failed.{Failed}
use Rattle.bgp_talk.specs.declared.mem_wire.MemRead.{MemRead}
use Rattle.bgp_talk.specs.declared.mem_wire.MemRead.TheVariants as reads
use Rattle.bgp_talk.specs.declared.mem_wire.MemWire.{MemWire}
use Rattle.bgp_talk.specs.declared.mem_wire.WireUpset.{WireUpset}
use Rattle.bgp_talk.specs.declared.mem_wire.WireUpset.TheVariants.{ConnectFails, ReadFails}
use Rattle.bgp_talk.specs.declared.mem_wire.WireUpset.TheVariants.{WriteFails, WriteTakesNothing}
use Rattle.bgp_talk.specs.declared.wire.Connection.{Connection}
use Rattle.bgp_talk.specs.declared.wire.Connection.TheVariants.{NotAsked}
use Rattle.bgp_talk.specs.Account.{Telling, Asked, Read, Clock, Wrote, ReadTold, Got, NothingYet}
use Rattle.bgp_talk.specs.Account.{Ended, Broke, connection_after, taken_of}

-- what it holds: its answers to reads and the place of the next one, its seconds and the place of
-- the next one, the octets that it took, the most that a write takes, what else happens once and
-- after how many calls, whether there is a connection, and how often it failed
pub record WireState : Type 0 where
  pub reads : List MemRead
  pub next_read : ℕ
  pub seconds : List ℕ
  pub next_second : ℕ
  pub taken : List ℕ
  pub most : ℕ
  pub upset : Option WireUpset
  pub calls_before : ℕ
  pub connection : Connection
  pub failures : ℕ

abbrev pub wire_state : {X : Type 0} → MemWire X → WireState
wire_state wire = record {
  reads = wire.reads.now;
  next_read = wire.next_read;
  seconds = wire.seconds.now;
  next_second = wire.next_second;
  taken = wire.taken.items;
  most = non_zero_usize_get wire.most;
  upset = wire.upset;
  calls_before = wire.calls_before;
  connection = wire.connection;
  failures = wire.failures;
}

-- one that wasn't asked to connect, and in whose calls nothing else happens
abbrev pub fresh_wire : List MemRead → List ℕ → WireState
fresh_wire reads seconds = record {
  reads = reads;
  next_read = 0;
  seconds = seconds;
  next_second = 0;
  taken = [];
  most = 2 ^ 64 - 1;
  upset = None;
  calls_before = 0;
  connection = NotAsked;
  failures = 0;
}

-- the place after one in a list of so many, the last of which repeats
abbrev pub place_after : ℕ → ℕ → ℕ
place_after place count = min (place + 1) (count - 1)

-- ---- connecting

abbrev pub is_connect_upset : Option WireUpset → Bool
is_connect_upset (Some ConnectFails) = true
is_connect_upset upset = false

-- there is a connection, unless the call is to fail
abbrev pub connects : WireState → Bool
connects state = if is_connect_upset state.upset then false else true

abbrev pub after_connect : WireState → WireState
after_connect state = record state {
  connection = connection_after (connects state);
  failures = if connects state then state.failures else state.failures + 1;
}

-- a call is counted, where it is of the kind that something else is to happen in
abbrev pub after_call : Bool → WireState → WireState
after_call counts state = record state {
  upset =
      if counts then (if state.calls_before == 0 then None else state.upset) else state.upset;
  calls_before = if counts then state.calls_before - 1 else state.calls_before;
}

-- ---- reading

abbrev pub is_read_upset : Option WireUpset → Bool
is_read_upset (Some ReadFails) = true
is_read_upset upset = false

-- the next read is to fail
abbrev pub next_read_fails : WireState → Bool
next_read_fails state =
    if is_read_upset state.upset then state.calls_before == 0 else false

abbrev pub after_read_call : WireState → WireState
after_read_call state = after_call (is_read_upset state.upset) state

-- what an answer tells where there is so much room: the octets that the room has no place for are
-- gone
abbrev pub told_by : MemRead → ℕ → ReadTold
told_by (reads.Bytes octets) room = Got (take (min (length octets.now) room) octets.now)
told_by reads.Nothing room = NothingYet
told_by reads.Closed room = Ended
told_by reads.Failed room = Broke

abbrev pub told_at : Option MemRead → ℕ → ReadTold
told_at None room = NothingYet
told_at (Some answer) room = told_by answer room

-- what a read with so much room tells: a failure where it is to fail, else the next answer
abbrev pub read_tells : WireState → ℕ → ReadTold
read_tells state room =
    if next_read_fails state then Broke
    else told_at (slice_get state.reads state.next_read) room

-- a read that is to fail leaves the next answer
abbrev pub after_read_place : WireState → WireState
after_read_place state = record (after_read_call state) {
  next_read =
      if next_read_fails state then state.next_read
      else place_after state.next_read (length state.reads);
}

abbrev pub failures_told : ℕ → ReadTold → ℕ
failures_told failures (Got octets) = failures
failures_told failures NothingYet = failures
failures_told failures Ended = failures
failures_told failures Broke = failures + 1

abbrev pub after_read : WireState → ℕ → WireState
after_read state room = record (after_read_place state) {
  failures = failures_told state.failures (read_tells state room);
}

-- ---- writing

abbrev pub is_write_upset : Option WireUpset → Bool
is_write_upset (Some WriteFails) = true
is_write_upset (Some WriteTakesNothing) = true
is_write_upset upset = false

-- what else happens in the next write
abbrev pub next_write_upset : WireState → Option WireUpset
next_write_upset state =
    if is_write_upset state.upset
    then (if state.calls_before == 0 then state.upset else None)
    else None

abbrev pub after_write_call : WireState → WireState
after_write_call state = after_call (is_write_upset state.upset) state

-- What a write of these octets may answer, by what else happens in it: it takes as many as it takes
-- at most, and fails only where it is to fail, or memory is refused.
abbrev pub IsWriteAnswer : Option WireUpset → ℕ → List ℕ → Result ℕ Failed → Type 0
IsWriteAnswer None most octets answer =
    IfOk answer (λ count. count ≡ min (length octets) most)
IsWriteAnswer (Some WriteFails) most octets answer = IsErr answer
IsWriteAnswer (Some upset) most octets answer = answer ≡ Ok 0

abbrev pub after_write : WireState → List ℕ → Result ℕ Failed → WireState
after_write state octets answer = record (after_write_call state) {
  taken = state.taken ++ taken_by answer octets;
  failures = failures_after state.failures answer;
}

-- ---- the clock

-- the next second, 0 where there is none
abbrev pub second_of : Option ℕ → ℕ
second_of None = 0
second_of (Some second) = second

abbrev pub second_now : WireState → ℕ
second_now state = second_of (slice_get state.seconds state.next_second)

abbrev pub after_now : WireState → WireState
after_now state =
    record state { next_second = place_after state.next_second (length state.seconds) }

-- ---- what it tells

-- by one call
abbrev pub Calls : WireState → Telling → WireState → Type 0
Calls a (Asked answer) b = (answer ≡ connects a) × (b ≡ after_connect a)
Calls a (Read room told) b = (told ≡ read_tells a room) × (b ≡ after_read a room)
Calls a (Clock second) b = (second ≡ second_now a) × (b ≡ after_now a)
Calls a (Wrote given octets) b =
    (offered : List ℕ) × (answer : Result ℕ Failed) × (given ≡ length offered)
    × IsWriteAnswer (next_write_upset a) a.most offered answer
    × (octets ≡ taken_by answer offered) × (b ≡ after_write a offered answer)

-- by its calls, one after another
abbrev pub Tells : WireState → List Telling → WireState → Type 0
Tells a [] b = b ≡ a
Tells a (told ∷ account) b =
    (next : WireState) × Calls a told next × Tells next account b

pub tells_nothing : (a : WireState) → Tells a [] a
tells_nothing a = refl

pub tells_joined : (a b c : WireState) (xs ys : List Telling) →
    Tells a xs b → Tells b ys c → Tells a (xs ++ ys) c
tells_joined a b c [] ys first second = subst (λ s. Tells s ys c) first second
tells_joined a b c (x ∷ xs) ys first second =
    (first.0, first.1, tells_joined first.0 b c xs ys first.2 second)

-- the octets that it took are those that it tells
abbrev pub TookWhatIsTold : Type 0
TookWhatIsTold =
    (a b : WireState) (account : List Telling) → Tells a account b
    → b.taken ≡ a.taken ++ taken_of account
