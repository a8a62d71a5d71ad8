-- What a wire tells, and the inputs of the speaker's core that it makes.
use Rattle.std.specs.Prelude.{◌≤◌, ◌+◌, ℕ, List, [], ◌∷◌, ◌++◌, take, Bool, true, false}
use Rattle.bgp_prefix.specs.Prefix.{PrefixBits}
use Rattle.bgp_speaker.specs.Core.{InputValue, Start, Passive, Connected, Failed, Bytes}
use Rattle.bgp_speaker.specs.Core.{Tick, Announce}
use Rattle.bgp_talk.specs.declared.wire.Connection.{Connection}
use Rattle.bgp_talk.specs.declared.wire.Connection.TheVariants.{Stands, Refused}
use Rattle.bgp_talk.specs.declared.wire.ReadAnswer.{ReadAnswer}
use Rattle.bgp_talk.specs.declared.wire.ReadAnswer.TheVariants as answers

-- what a read told: octets, nothing yet, the end, or that it failed
pub data ReadTold : Type 0 where
  Got : List ℕ → ReadTold
  NothingYet : ReadTold
  Ended : ReadTold
  Broke : ReadTold

-- What a wire tells, one call after another: of `connect` whether there is a connection; of `read`
-- how much room there was, and its answer with the octets; of `now` the second; of `write` how many
-- octets it was given, and those that it took, none where it failed.
pub data Telling : Type 0 where
  Asked : Bool → Telling
  Read : ℕ → ReadTold → Telling
  Clock : ℕ → Telling
  Wrote : ℕ → List ℕ → Telling

-- whether there is a connection, by the answer of `connect`
abbrev pub connection_after : Bool → Connection
connection_after true = Stands
connection_after false = Refused

abbrev pub read_told : ReadAnswer → List ℕ → ReadTold
read_told (answers.Bytes count) buffer = Got (take count buffer)
read_told answers.Nothing buffer = NothingYet
read_told answers.Closed buffer = Ended
read_told answers.Failed buffer = Broke

-- no more octets came than there was room for
abbrev pub IsWithin : ReadAnswer → ℕ → Type 0
IsWithin (answers.Bytes count) room = count ≤ room
IsWithin answers.Nothing room = Unit {0}
IsWithin answers.Closed room = Unit {0}
IsWithin answers.Failed room = Unit {0}

-- the count of failures after a read: one more where it failed
abbrev pub failures_after_read : ℕ → ReadAnswer → ℕ
failures_after_read failures (answers.Bytes count) = failures
failures_after_read failures answers.Nothing = failures
failures_after_read failures answers.Closed = failures
failures_after_read failures answers.Failed = failures + 1

-- ---- the inputs

-- those of a turn, by what its read told
abbrev pub turn_inputs : ReadTold → List InputValue
turn_inputs (Got octets) = Bytes octets ∷ Tick ∷ []
turn_inputs NothingYet = Tick ∷ []
turn_inputs Ended = Failed ∷ Tick ∷ []
turn_inputs Broke = Failed ∷ Tick ∷ []

-- those that are owed at first: an Announce for each prefix, and then a start
abbrev pub first_owed : List PrefixBits → Bool → List InputValue
first_owed [] true = Passive ∷ []
first_owed [] false = Start ∷ []
first_owed (prefix ∷ own) passive = Announce prefix ∷ first_owed own passive

-- what the core is told of an answer of `connect`
abbrev pub connect_input : Bool → InputValue
connect_input true = Connected
connect_input false = Failed

-- Those that are owed after a telling: before what was owed, what an answer of `connect` or `read`
-- makes, and a failure where a write took nothing. Each `now` is for the first of them.
abbrev pub owed_by : List InputValue → Telling → List InputValue
owed_by owed (Asked answer) = connect_input answer ∷ owed
owed_by owed (Read room told) = turn_inputs told ++ owed
owed_by [] (Clock second) = []
owed_by (input ∷ owed) (Clock second) = owed
owed_by owed (Wrote given []) = Failed ∷ owed
owed_by owed (Wrote given (octet ∷ octets)) = owed

-- those that a telling hands in, each with its second: at a `now` the first that is owed
abbrev pub handed_by : List InputValue → Telling → List (ℕ × InputValue)
handed_by owed (Asked answer) = []
handed_by owed (Read room told) = []
handed_by [] (Clock second) = []
handed_by (input ∷ owed) (Clock second) = (second, input) ∷ []
handed_by owed (Wrote given octets) = []

-- the inputs that an account makes, in order, each with its second
abbrev pub inputs_of : List InputValue → List Telling → List (ℕ × InputValue)
inputs_of owed [] = []
inputs_of owed (told ∷ account) = handed_by owed told ++ inputs_of (owed_by owed told) account

-- ---- the octets that went out

abbrev pub taken_by : Telling → List ℕ
taken_by (Asked answer) = []
taken_by (Read room told) = []
taken_by (Clock second) = []
taken_by (Wrote given octets) = octets

-- those that were taken, in order
abbrev pub taken_of : List Telling → List ℕ
taken_of [] = []
taken_of (told ∷ account) = taken_by told ++ taken_of account

-- if it is a write, it took something
abbrev pub TookIfWrote : Telling → Type 0
TookIfWrote (Asked answer) = Unit {0}
TookIfWrote (Read room told) = Unit {0}
TookIfWrote (Clock second) = Unit {0}
TookIfWrote (Wrote given []) = ⊥
TookIfWrote (Wrote given (octet ∷ octets)) = Unit {0}

-- no write failed or took nothing
abbrev pub IsCalm : List Telling → Type 0
IsCalm [] = Unit {0}
IsCalm (told ∷ account) = TookIfWrote told × IsCalm account

-- ---- the answers of `connect`

abbrev pub answers_by : Telling → List Bool
answers_by (Asked answer) = answer ∷ []
answers_by (Read room told) = []
answers_by (Clock second) = []
answers_by (Wrote given octets) = []

-- those that are told, in order
abbrev pub answers_of : List Telling → List Bool
answers_of [] = []
answers_of (told ∷ account) = answers_by told ++ answers_of account

-- ---- the turns

abbrev pub reads_by : Telling → ℕ
reads_by (Asked answer) = 0
reads_by (Read room told) = 1
reads_by (Clock second) = 0
reads_by (Wrote given octets) = 0

-- how many reads are told
abbrev pub reads_of : List Telling → ℕ
reads_of [] = 0
reads_of (told ∷ account) = reads_by told + reads_of account
