-- What a speaker does over a wire, by what the wire tells.
use Rattle.std.specs.Prelude.{◌≡◌, ◌⊎◌, ◌+◌, ◌<◌, ℕ, length, List, [], ◌∷◌, ◌++◌}
use Rattle.std.specs.Prelude.{Bool, true, false, IsTrue, IsFalse, if◌then◌else◌}
use Rattle.std.specs.Prelude.{Result, Ok, Err}
use Rattle.bgp_prefix.specs.Shown.{ShownRecord}
use Rattle.bgp_open.specs.declared.config.Config.{Config}
use Rattle.bgp_rib.specs.Routes.{Routes}
use Rattle.bgp_speaker.specs.Choosing.{Chooses, sent_in}
use Rattle.bgp_speaker.specs.Core.{CoreState, InputValue, Stop, Failed}
use Rattle.mrt.specs.Sink.{TakesBeginning}
use Rattle.mrt.specs.Written.{capture_octets}
use Rattle.bgp_talk.specs.Account.{Telling, ReadTold, Asked, Read, Clock, Wrote}
use Rattle.bgp_talk.specs.Account.{connect_input, connection_after, turn_inputs}
use Rattle.bgp_talk.specs.CoreFacts.{is_idle, is_resting}
use Rattle.bgp_talk.specs.declared.fault.SpeakFault.{SpeakFault}
use Rattle.bgp_talk.specs.declared.fault.SpeakFault.TheVariants.{Capture, Memory}
use Rattle.bgp_talk.specs.declared.wire.Connection.{Connection}
use Rattle.bgp_talk.specs.declared.wire.Connection.TheVariants.{NotAsked, Stands}

-- the octets of a capture of these records
abbrev pub capture_of : Config → List ShownRecord → List ℕ
capture_of config records =
    capture_octets config.parts.session config.parts.peer_as config.parts.local_as records

-- ---- one telling after another

-- What a speaker has in hand between two tellings: the inputs that are owed, the octets of the last
-- step that the wire hasn't taken, whether there is a connection, how many turns are left, and the
-- core.
pub record Standing : Type 0 where
  pub owed : List InputValue
  pub unsent : List ℕ
  pub connection : Connection
  pub left : ℕ
  pub core : CoreState

abbrev pub in_hand : List InputValue → List ℕ → Connection → ℕ → CoreState → Standing
in_hand owed unsent connection left core = record {
  owed = owed;
  unsent = unsent;
  connection = connection;
  left = left;
  core = core;
}

-- all inputs are handed in, and all octets written
abbrev pub IsFree : Standing → Type 0
IsFree s = (s.owed ≡ []) × (s.unsent ≡ [])

-- The wire is asked to connect: once, when there is nothing else to do. Its answer is owed.
pub record Connects (s : Standing) (answer : Bool) (e : Standing) : Type 0 where
  pub free : IsFree s
  pub once : s.connection ≡ NotAsked
  pub goes : e ≡ record s {
    owed = connect_input answer ∷ [];
    connection = connection_after answer;
  }

-- how many octets a read has room for
abbrev pub read_room : ℕ
read_room = 4096

-- The wire is read: when there is nothing else to do, the core doesn't rest, and a turn is left,
-- which it takes. The turn's inputs are owed.
pub record Reads (s : Standing) (room : ℕ) (told : ReadTold) (e : Standing) : Type 0 where
  pub free : IsFree s
  pub stands : s.connection ≡ Stands
  pub awake : IsFalse (is_resting s.core)
  pub wide : room ≡ read_room
  pub takes : s.left ≡ e.left + 1
  pub goes : e ≡ record s { owed = turn_inputs told; left = e.left }

-- The first input that is owed is handed in at the second, when all octets of the last one were
-- written. What the core shows is its choice, and what it sends is to be written.
pub record Enters (s : Standing) (second : ℕ) (shown : List ShownRecord) (e : Standing)
    : Type 0 where
  pub input : InputValue
  pub rest : List InputValue
  pub sent : s.unsent ≡ []
  pub owed : s.owed ≡ input ∷ rest
  pub chosen : Chooses s.core input second shown e.core
  pub goes : e ≡ record s { owed = rest; unsent = sent_in shown; core = e.core }

-- the wire is given all octets that are to be written, and takes some of them, the first ones
pub record Writes (s : Standing) (given : ℕ) (octets : List ℕ) (e : Standing) : Type 0 where
  pub stands : s.connection ≡ Stands
  pub whole : given ≡ length s.unsent
  pub unsent : s.unsent ≡ octets ++ e.unsent
  pub goes : e ≡ record s { unsent = e.unsent }

-- It takes none, though there are some: they are given up, and a failure is owed before all else.
pub record Breaks (s : Standing) (given : ℕ) (e : Standing) : Type 0 where
  pub stands : s.connection ≡ Stands
  pub whole : given ≡ length s.unsent
  pub some : 0 < length s.unsent
  pub goes : e ≡ record s { owed = Failed ∷ s.owed; unsent = [] }

-- what a telling makes of what was in hand, and what the core shows on it
abbrev pub Goes : Standing → Telling → List ShownRecord → Standing → Type 0
Goes s (Asked answer) shown e = Connects s answer e × (shown ≡ [])
Goes s (Read room told) shown e = Reads s room told e × (shown ≡ [])
Goes s (Clock second) shown e = Enters s second shown e
Goes s (Wrote given []) shown e = Breaks s given e × (shown ≡ [])
Goes s (Wrote given (octet ∷ octets)) shown e =
    Writes s given (octet ∷ octets) e × (shown ≡ [])

-- and an account of tellings, one after another
abbrev pub Talks : Standing → List Telling → List ShownRecord → Standing → Type 0
Talks s [] shown e = (shown ≡ []) × (e ≡ s)
Talks s (told ∷ account) shown e =
    (first : List ShownRecord) × (between : Standing) × (others : List ShownRecord)
    × Goes s told first between × Talks between account others e × (shown ≡ first ++ others)

-- Nothing is left to do: the wire was asked to connect, and the core rests, or no turn is left.
pub record IsOver (s : Standing) : Type 0 where
  pub free : IsFree s
  pub asked : (answer : Bool) × (s.connection ≡ connection_after answer)
  pub ends : IsTrue (is_resting s.core) ⊎ (s.left ≡ 0)

-- at last Stop is owed, unless the core is Idle
abbrev pub closing_owed : CoreState → List InputValue
closing_owed core = if is_idle core then [] else Stop ∷ []

-- what is in hand then: no turn is left, so that nothing follows but what the Stop makes
abbrev pub closing_of : Standing → Standing
closing_of s = record s { owed = closing_owed s.core; left = 0 }

-- ---- over a wire and a sink

-- the failures of a sink after a call: one more exactly where the capture can't be written
abbrev pub faults_after : {X : Type 0} → ℕ → Result X SpeakFault → ℕ
faults_after count (Ok answer) = count
faults_after count (Err Capture) = count + 1
faults_after count (Err Memory) = count

module _ {W C : Type 0}
    (tells : W → W → List Telling → Type 0) (takes : C → C → List ℕ → Type 0)
    (text : List ShownRecord → List ℕ) where
  -- The wire told an account, the speaker did what it asks for, and the sink took the text of what
  -- the core showed.
  pub record Went (s : Standing) (wire : W) (sink : C) (e : Standing) (wire' : W) (sink' : C)
      : Type 0 where
    pub account : List Telling
    pub records : List ShownRecord
    pub told : tells wire wire' account
    pub talked : Talks s account records e
    pub wrote : takes sink sink' (text records)

  -- Where the core is refused memory, the second of an input that was owed was told, and the core
  -- didn't take it; and nothing was written.
  abbrev pub Refuses : Standing → W → C → W → C → Type 0
  Refuses s wire sink wire' sink' =
      (sink' ≡ sink) × (input : InputValue) × (rest : List InputValue) × (second : ℕ)
      × (s.owed ≡ input ∷ rest) × (s.unsent ≡ []) × tells wire wire' (Clock second ∷ [])

  -- Where the capture can't be written, the core took an input, and a beginning of the text of what
  -- it showed on it was written; nothing of what it sent.
  abbrev pub Spoils : Standing → W → C → W → C → Type 0
  Spoils s wire sink wire' sink' =
      (second : ℕ) × (records : List ShownRecord) × (e : Standing)
      × tells wire wire' (Clock second ∷ []) × Goes s (Clock second) records e
      × TakesBeginning takes sink sink' (text records)

  abbrev pub StopsShort : SpeakFault → Standing → W → C → W → C → Type 0
  StopsShort Memory s wire sink wire' sink' = Refuses s wire sink wire' sink'
  StopsShort Capture s wire sink wire' sink' = Spoils s wire sink wire' sink'

  -- A fault cut it short: so far all went well, and then it stopped.
  pub record Cut (fault : SpeakFault) (s : Standing) (wire : W) (sink : C) (wire' : W) (sink' : C)
      : Type 0 where
    pub between : Standing
    pub there : W
    pub so_far : C
    pub went : Went s wire sink between there so_far
    pub short : StopsShort fault between there so_far wire' sink'

  -- the same while it closes: until then all went well
  pub record CutAtTheEnd (fault : SpeakFault) (s : Standing) (wire : W) (sink : C) (wire' : W)
      (sink' : C) : Type 0 where
    pub end : Standing
    pub there : W
    pub so_far : C
    pub talked : Went s wire sink end there so_far
    pub over : IsOver end
    pub cut : Cut fault (closing_of end) there so_far wire' sink'

  -- The talk was over, and there was no memory for a copy of its routes.
  pub record LacksRoutes (s : Standing) (wire : W) (sink : C) (wire' : W) (sink' : C)
      : Type 0 where
    pub end : Standing
    pub talked : Went s wire sink end wire' sink'
    pub over : IsOver end

  -- What a speaker did that gave up: its talk was cut short, or its closing; or between them it was
  -- refused memory for its routes.
  abbrev pub GaveUp : SpeakFault → List InputValue → ℕ → CoreState → W → C → W → C → Type 0
  GaveUp fault owed limit core wire sink wire' sink' =
      Cut fault (in_hand owed [] NotAsked limit core) wire sink wire' sink'
      ⊎ (CutAtTheEnd fault (in_hand owed [] NotAsked limit core) wire sink wire' sink'
      ⊎ ((fault ≡ Memory)
      × LacksRoutes (in_hand owed [] NotAsked limit core) wire sink wire' sink'))

  -- What a speaker did that ended: it talked until nothing was left to do, and closed. Its turns
  -- are those that aren't left, its routes those before the closing.
  pub record Spoken (owed : List InputValue) (limit turns : ℕ) (routes : Routes)
      (core : CoreState) (wire : W) (sink : C) (wire' : W) (sink' : C) : Type 0 where
    pub end : Standing
    pub there : W
    pub so_far : C
    pub talked : Went (in_hand owed [] NotAsked limit core) wire sink end there so_far
    pub over : IsOver end
    pub closed : Standing
    pub closes : Went (closing_of end) there so_far closed wire' sink'
    pub free : IsFree closed
    pub taken : turns + end.left ≡ limit
    pub reported : routes ≡ end.core.moment.session.routes

  -- An input was handed in, its records were written, and these octets are to be sent.
  pub record Entered (input : InputValue) (a : CoreState) (wire : W) (sink : C) (octets : List ℕ)
      (b : CoreState) (wire' : W) (sink' : C) : Type 0 where
    pub second : ℕ
    pub records : List ShownRecord
    pub told : tells wire wire' (Clock second ∷ [])
    pub wrote : takes sink sink' (text records)
    pub chosen : Chooses a input second records b
    pub sends : octets ≡ sent_in records

-- Octets were sent: in whole where all is taken, else up to a failure that is owed now.
abbrev pub owed_then : Bool → List InputValue → List InputValue
owed_then true owed = owed
owed_then false owed = Failed ∷ owed

abbrev pub Sends : List Telling → List ℕ → Bool → Type 0
Sends account octets all =
    (owed : List InputValue) (left : ℕ) (core : CoreState)
    → Talks (in_hand owed octets Stands left core) account []
    (in_hand (owed_then all owed) [] Stands left core)

-- so far these were taken, and this rest is to be sent
abbrev pub SentSoFar : List Telling → List ℕ → List ℕ → Type 0
SentSoFar account octets rest =
    (owed : List InputValue) (left : ℕ) (core : CoreState)
    → Talks (in_hand owed octets Stands left core) account []
    (in_hand owed rest Stands left core)
