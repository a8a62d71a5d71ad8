-- Laws of what is heard: a frame at a time, and however the octets are cut.
use Rattle.std.specs.Prelude.{◌++◌, ℕ, List}
use Rattle.bgp_prefix.specs.Prefix.{PrefixBits}
use Rattle.bgp_prefix.specs.Shown.{ShownRecord}
use Rattle.bgp_wire.specs.Framing.{IsFrame, IsShort}
use Rattle.bgp_machine.specs.Heard.{received_limit}
use Rattle.bgp_speaker.specs.declared.speaker.Speaker.{Speaker}
use Rattle.bgp_speaker.specs.Choice.{TakesOn, Greets}
use Rattle.bgp_speaker.specs.Choosing.{HearsBytes, Chooses}
use Rattle.bgp_speaker.specs.Core.{CoreState, Moment, IsConnected, Bytes}

-- a frame stands first, is heard, and then what comes after it
abbrev pub FrameFirst : Type 0
FrameFirst =
    (speaker : Speaker) (kept : List PrefixBits) (t : ℕ) (m between greeted e : Moment)
    (frame later rest : List ℕ) (first greeting others : List ShownRecord)
    → IsFrame (received_limit speaker.config) frame → IsConnected m.session.head
    → TakesOn speaker t frame m first between
    → Greets speaker kept t m.session.head between greeting greeted
    → HearsBytes speaker kept t greeted later others e rest
    → HearsBytes speaker kept t m (frame ++ later) (first ++ (greeting ++ others)) e rest

-- octets that end in the middle of a message, and then others, are heard as all at once
abbrev pub CutDoesntMatter : Type 0
CutDoesntMatter =
    (speaker : Speaker) (kept : List PrefixBits) (t : ℕ) (m between e : Moment)
    (octets more rest last : List ℕ) (first others : List ShownRecord)
    → HearsBytes speaker kept t m octets first between rest
    → IsShort (received_limit speaker.config) rest
    → HearsBytes speaker kept t between (rest ++ more) others e last
    → HearsBytes speaker kept t m (octets ++ more) (first ++ others) e last

-- two pieces of octets at one second, one after the other, are as one
abbrev pub PiecesAreJoined : Type 0
PiecesAreJoined =
    (s m e : CoreState) (octets more : List ℕ) (second : ℕ) (first others : List ShownRecord)
    → Chooses s (Bytes octets) second first m
    → Chooses m (Bytes more) second others e
    → Chooses s (Bytes (octets ++ more)) second (first ++ others) e
