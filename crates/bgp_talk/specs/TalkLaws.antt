-- What is so of each talk over a wire.
use Rattle.std.specs.Prelude.{◌≡◌, ◌≢◌, ◌+◌, ◌<◌, ℕ, length, List, [], ◌∷◌, ◌++◌, IsFalse, Bool}
use Rattle.std.specs.Prelude.{Some, ◌⊎◌}
use Rattle.std.specs.List.{AllByRecursion}
use Rattle.bgp_prefix.specs.Prefix.{PrefixBits}
use Rattle.bgp_prefix.specs.Shown.{ShownRecord}
use Rattle.bgp_speaker.specs.Choosing.{Drives, sent_in}
use Rattle.bgp_speaker.specs.Core.{CoreState, InputValue, Failed, Stop}
use Rattle.bgp_talk.specs.Account.{Telling, Asked, Read, Clock, Wrote, first_owed, inputs_of}
use Rattle.bgp_talk.specs.Account.{IsCalm, taken_of, reads_of, answers_of, connection_after}
use Rattle.bgp_talk.specs.CoreFacts.{is_idle}
use Rattle.bgp_talk.specs.NextCall.{call_of, next_call}
use Rattle.bgp_talk.specs.Talk.{Standing, IsFree, IsOver, Talks, closing_of, in_hand, read_room}
use Rattle.bgp_talk.specs.declared.wire.Connection.TheVariants.{NotAsked}

-- ---- what is handed in

-- The core took just the inputs that the account makes of what was owed, each at its second, and
-- showed the records.
abbrev pub InputsAreHandedIn : Type 0
InputsAreHandedIn =
    (s e : Standing) (account : List Telling) (records : List ShownRecord)
    → Talks s account records e → Drives s.core (inputs_of s.owed account) records e.core

abbrev pub IsNoStop : ℕ × InputValue → Type 0
IsNoStop handed = handed.1 ≢ Stop

-- no Stop is handed in until all is over
abbrev pub NoStopBeforeTheEnd : Type 0
NoStopBeforeTheEnd =
    (own : List PrefixBits) (passive : Bool) (account : List Telling)
    → AllByRecursion IsNoStop (inputs_of (first_owed own passive) account)

-- the failure of a last input's octets, or nothing
abbrev pub IsItsFailure : List (ℕ × InputValue) → Type 0
IsItsFailure others = (others ≡ []) ⊎ ((second : ℕ) × (others ≡ (second, Failed) ∷ []))

-- And then Stop is, where the core isn't Idle, and after it nothing but the failure of its own
-- octets.
abbrev pub StopIsLast : Type 0
StopIsLast =
    (s e : Standing) (account : List Telling) (records : List ShownRecord)
    → IsOver s → IsFalse (is_idle s.core) → Talks (closing_of s) account records e → IsFree e
    → (second : ℕ) × (others : List (ℕ × InputValue))
    × (inputs_of (Stop ∷ []) account ≡ (second, Stop) ∷ others) × IsItsFailure others

-- right after a write that took nothing a failure is handed in
abbrev pub FailureStandsNext : Type 0
FailureStandsNext =
    (s e : Standing) (given : ℕ) (told : Telling) (account : List Telling)
    (records : List ShownRecord) → Talks s (Wrote given [] ∷ told ∷ account) records e
    → (second : ℕ) × (others : List (ℕ × InputValue)) × (told ≡ Clock second)
    × (inputs_of s.owed (Wrote given [] ∷ told ∷ account) ≡ (second, Failed) ∷ others)

-- ---- what is written

-- where octets are to be sent, nothing is told before they are but of writes, each given them all
abbrev pub OctetsGoFirst : Type 0
OctetsGoFirst =
    (s e : Standing) (told : Telling) (account : List Telling) (records : List ShownRecord)
    → 0 < length s.unsent → Talks s (told ∷ account) records e
    → (octets : List ℕ) × (told ≡ Wrote (length s.unsent) octets)

-- at each moment of a talk the wire took a beginning of the octets that the core sent until then
abbrev pub OctetsAreTheCores : Type 0
OctetsAreTheCores =
    (owed : List InputValue) (limit : ℕ) (core : CoreState) (e : Standing)
    (account : List Telling) (records : List ShownRecord)
    → Talks (in_hand owed [] NotAsked limit core) account records e
    → (unsent : List ℕ) × (sent_in records ≡ taken_of account ++ unsent)

-- Of the octets that the core sent until the talk was over, and so far in the closing, the wire
-- took a beginning; and at its end all, where no write failed or took nothing.
abbrev pub OctetsAreTaken : Type 0
OctetsAreTaken =
    (owed : List InputValue) (limit : ℕ) (core : CoreState) (e f : Standing)
    (talk closing : List Telling) (first last : List ShownRecord)
    → Talks (in_hand owed [] NotAsked limit core) talk first e → IsOver e
    → Talks (closing_of e) closing last f
    → (unsent : List ℕ)
    × (sent_in (first ++ last) ≡ taken_of (talk ++ closing) ++ unsent)
    × (IsFree f → IsCalm (talk ++ closing) → unsent ≡ [])

-- ---- what is read

-- each read takes a turn
abbrev pub TurnsAreReads : Type 0
TurnsAreReads =
    (s e : Standing) (account : List Telling) (records : List ShownRecord)
    → Talks s account records e → reads_of account + e.left ≡ s.left

-- if it is a read, it has room for 4096 octets
abbrev pub HasRoom : Telling → Type 0
HasRoom (Asked answer) = Unit {0}
HasRoom (Read room told) = room ≡ read_room
HasRoom (Clock second) = Unit {0}
HasRoom (Wrote given octets) = Unit {0}

abbrev pub ReadsHaveRoom : Type 0
ReadsHaveRoom =
    (s e : Standing) (account : List Telling) (records : List ShownRecord)
    → Talks s account records e → AllByRecursion HasRoom account

-- once the core rests and nothing is owed, or no turn is left, nothing more is told
abbrev pub NothingFollowsTheEnd : Type 0
NothingFollowsTheEnd =
    (s e : Standing) (account : List Telling) (records : List ShownRecord)
    → IsOver s → Talks s account records e → account ≡ []

-- ---- what is asked

-- each telling answers the one call that what is in hand asks for
abbrev pub OneCallIsNext : Type 0
OneCallIsNext =
    (s e : Standing) (told : Telling) (account : List Telling) (records : List ShownRecord)
    → Talks s (told ∷ account) records e → next_call s ≡ Some (call_of told)

-- by the end of a talk it was asked to connect, once, and there is a connection where it did
abbrev pub ConnectIsAskedOnce : Type 0
ConnectIsAskedOnce =
    (owed : List InputValue) (limit : ℕ) (core : CoreState) (e : Standing)
    (account : List Telling) (records : List ShownRecord)
    → Talks (in_hand owed [] NotAsked limit core) account records e → IsOver e
    → (answer : Bool) × (answers_of account ≡ answer ∷ [])
    × (e.connection ≡ connection_after answer)
