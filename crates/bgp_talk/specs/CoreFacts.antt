-- What a speaker's core does that has no connection, or loses the one it has; and how long its
-- records are.
use Rattle.std.specs.Prelude.{◌≡◌, ◌≤◌, ℕ, Bool, true, false, IsTrue, List, [], length}
use Rattle.std.specs.List.{AllByRecursion}
use Rattle.bgp_prefix.specs.Prefix.{PrefixBits}
use Rattle.bgp_prefix.specs.Shown.{ShownRecord}
use Rattle.bgp_wire.specs.Header.{greatest_length}
use Rattle.bgp_open.specs.declared.config.Config.{Config}
use Rattle.bgp_machine.specs.Heard.{received_limit}
use Rattle.bgp_machine.specs.declared.fsm.Fsm.{Fsm}
use Rattle.bgp_machine.specs.declared.fsm.Fsm.TheVariants as fsms
use Rattle.bgp_machine.specs.declared.state.Head.{Head}
use Rattle.bgp_machine.specs.State.{fsm_of}
use Rattle.bgp_speaker.specs.Choosing.{Chooses, sent_in}
use Rattle.bgp_speaker.specs.Core.{CoreState, InputValue, Start, Passive, Stop, Failed, Tick}
use Rattle.bgp_speaker.specs.Core.{Announce}
use Rattle.mrt.specs.Written.{content_for}

abbrev pub idle_in : Fsm → Bool
idle_in fsms.Idle = true
idle_in fsms.Connect = false
idle_in fsms.Active = false
idle_in fsms.OpenSent = false
idle_in fsms.OpenConfirm = false
idle_in fsms.Established = false

abbrev pub rests_in : Fsm → Bool
rests_in fsms.Idle = true
rests_in fsms.Connect = false
rests_in fsms.Active = true
rests_in fsms.OpenSent = false
rests_in fsms.OpenConfirm = false
rests_in fsms.Established = false

abbrev pub idle_at : Head → Bool
idle_at head = idle_in (fsm_of head)

abbrev pub rests_at : Head → Bool
rests_at head = rests_in (fsm_of head)

-- the core is Idle
abbrev pub is_idle : CoreState → Bool
is_idle s = idle_at s.moment.session.head

-- the core is Idle or Active
abbrev pub is_resting : CoreState → Bool
is_resting s = rests_at s.moment.session.head

-- It fits the body of a capture's record: a message has no more octets than the longest one that a
-- local system may receive which is configured so (RFC 4271, 4.1; RFC 8654, 4).
abbrev pub IsShort : Config → ShownRecord → Type 0
IsShort config shown = length (content_for shown) ≤ greatest_length (received_limit config) 2

abbrev pub EachRecordIsShort : Type 0
EachRecordIsShort =
    (a b : CoreState) (input : InputValue) (second : ℕ) (records : List ShownRecord)
    → Chooses a input second records b → AllByRecursion (IsShort a.speaker.config) records

-- by the end of its connection a core comes to rest, and sends nothing
abbrev pub FailureBringsRest : Type 0
FailureBringsRest =
    (a b : CoreState) (second : ℕ) (records : List ShownRecord)
    → Chooses a Failed second records b → IsTrue (is_resting b) × (sent_in records ≡ [])

abbrev pub IsQuiet : InputValue → Type 0
IsQuiet Tick = Unit {0}
IsQuiet Failed = Unit {0}
IsQuiet Stop = Unit {0}
IsQuiet input = ⊥

-- a core at rest stays at rest on these inputs, and sends nothing
abbrev pub RestGoesOn : Type 0
RestGoesOn =
    (a b : CoreState) (input : InputValue) (second : ℕ) (records : List ShownRecord)
    → IsQuiet input → IsTrue (is_resting a) → Chooses a input second records b
    → IsTrue (is_resting b) × (sent_in records ≡ [])

-- an Idle core that is to announce a prefix stays Idle, and sends nothing
abbrev pub IdleKeepsPrefix : Type 0
IdleKeepsPrefix =
    (a b : CoreState) (prefix : PrefixBits) (second : ℕ) (records : List ShownRecord)
    → IsTrue (is_idle a) → Chooses a (Announce prefix) second records b
    → IsTrue (is_idle b) × (sent_in records ≡ [])

abbrev pub IsOpening : InputValue → Type 0
IsOpening Start = Unit {0}
IsOpening Passive = Unit {0}
IsOpening input = ⊥

-- an Idle core that starts sends nothing
abbrev pub StartIsSilent : Type 0
StartIsSilent =
    (a b : CoreState) (input : InputValue) (second : ℕ) (records : List ShownRecord)
    → IsOpening input → IsTrue (is_idle a) → Chooses a input second records b
    → sent_in records ≡ []
