-- Laws of many inputs: their records are those of a run.
use Rattle.std.specs.Prelude.{◌≡◌, ℕ, List, false}
use Rattle.std.specs.List.Sorted.{IsStrictlySortedBy}
use Rattle.bgp_prefix.specs.PrefixOrder.{prefix_cmp}
use Rattle.bgp_prefix.specs.Shown.{ShownRecord}
use Rattle.bgp_machine.specs.Run.{IsComplete, Run, end_of, is_delayed}
use Rattle.bgp_machine.specs.State.{link_at}
use Rattle.bgp_speaker.specs.declared.speaker.Speaker.{Speaker}
use Rattle.bgp_speaker.specs.Choosing.{Drives}
use Rattle.bgp_speaker.specs.Core.{CoreState, InputValue, IsPlain, OffersNothing, fresh_core}
use Rattle.bgp_speaker.specs.Shown.{input_value}
use Rattle.bgp_speaker.specs.declared.input.Input.{Input}

-- an input with its second
abbrev pub input_at : ℕ × Input → ℕ × InputValue
input_at x = (x.0, input_value x.1)

abbrev pub EachDriveIsARun : Type 0
EachDriveIsARun =
    (s e : CoreState) (inputs : List (ℕ × InputValue)) (records : List ShownRecord)
    → Drives s inputs records e
    → Run s.speaker.config s.moment.session records e.moment.session

abbrev pub EachDriveIsComplete : Type 0
EachDriveIsComplete =
    (speaker : Speaker) (e : CoreState) (inputs : List (ℕ × InputValue))
    (records : List ShownRecord)
    → Drives (fresh_core speaker) inputs records e
    → IsComplete speaker.config records (end_of e.moment.session)

-- the core never delays its OPEN, whatever it was told (RFC 4271, 8.1.1: DelayOpen)
abbrev pub EachDriveIsUndelayed : Type 0
EachDriveIsUndelayed =
    (speaker : Speaker) (e : CoreState) (inputs : List (ℕ × InputValue))
    (records : List ShownRecord)
    → Drives (fresh_core speaker) inputs records e
    → is_delayed e.moment.session.head ≡ false

-- a core that offers nothing settles nothing but plain routes, whatever its peer offers
abbrev pub EachLinkIsPlain : Type 0
EachLinkIsPlain =
    (speaker : Speaker) (e : CoreState) (inputs : List (ℕ × InputValue))
    (records : List ShownRecord)
    → OffersNothing speaker.config → Drives (fresh_core speaker) inputs records e
    → IsPlain (link_at e.moment.session.head)

-- the prefixes that the core keeps ascend, whatever it was told: so they stand in one order, and
-- none twice
abbrev pub EachKeptListAscends : Type 0
EachKeptListAscends =
    (speaker : Speaker) (e : CoreState) (inputs : List (ℕ × InputValue))
    (records : List ShownRecord)
    → Drives (fresh_core speaker) inputs records e
    → IsStrictlySortedBy prefix_cmp e.kept
