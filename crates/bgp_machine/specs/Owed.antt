-- Each want that a step owes can be met by some message.
use Rattle.std.specs.Prelude.{◌≡◌, ℕ, List, [], Option}
use Rattle.bgp_wire.specs.Octets.{AreOctets}
use Rattle.bgp_open.specs.declared.config.Config.{Config}
use Rattle.bgp_open.specs.declared.link.Link.{Link}
use Rattle.bgp_machine.specs.declared.state.Head.{Head}
use Rattle.bgp_machine.specs.declared.rows.HiddenRow.TheVariants.{Notes}
use Rattle.bgp_machine.specs.declared.want.FaultSet.{FaultSet}
use Rattle.bgp_machine.specs.declared.want.Want.{Want}
use Rattle.bgp_machine.specs.declared.want.Want.TheVariants.{Faults}
use Rattle.bgp_machine.specs.Lists.{Each}
use Rattle.bgp_machine.specs.State.{SessionState, Turn, link_at}
use Rattle.bgp_machine.specs.Step.{Event, Hidden, Row, Step}
use Rattle.bgp_machine.specs.Want.{Meets, NamesFault}

-- some message meets it, and is made of octets
abbrev pub CanBeMet : Config → Option Link → Want → Type 0
CanBeMet config link want = (octets : List ℕ) × AreOctets octets × Meets config link want octets

-- of what a row of the tables sends, each can be met on the link before the step
abbrev pub EachOwedCanBeMet : Type 0
EachOwedCanBeMet =
    (head : Head) (config : Config) (t : ℕ) (event : Event) (wants : List Want) (turn : Turn)
    → Row head config t event wants turn → Each (CanBeMet config (link_at head)) wants

-- some NOTIFICATION names a fault of the set
abbrev pub HasFault : FaultSet → Type 0
HasFault faults =
    (code : ℕ) × (subcode : ℕ) × (detail : List ℕ) × NamesFault faults code subcode detail

-- no row of the tables owes a fault of an empty set
abbrev pub EachOwedSetHasFault : Type 0
EachOwedSetHasFault =
    (head : Head) (config : Config) (t : ℕ) (event : Event) (wants : List Want) (turn : Turn)
    → Row head config t event wants turn
    → Each (λ want. (faults : FaultSet) → want ≡ Faults faults → HasFault faults) wants

-- a note sends nothing and leaves a state as it was
abbrev pub NoteKeepsState : Type 0
NoteKeepsState =
    (config : Config) (s s2 : SessionState) (t : ℕ) (wants : List Want)
    → Step config s t (Hidden Notes) wants s2 → (wants ≡ []) × (s2 ≡ s)
