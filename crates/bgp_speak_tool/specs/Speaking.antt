-- What is printed of what a speaker did over a wire, and its exit status.
use Rattle.std.specs.Prelude.{◌≡◌, ◌+◌, ◌++◌, ◌⊎◌, ℕ, List, codes, Bool, true, false, Option}
use Rattle.std.specs.Prelude.{Some, None, if◌then◌else◌, option_and_then}
use Rattle.std.specs.Fmt.{decimal}
use Rattle.std.specs.List.{flat_map}
use Rattle.bgp_prefix.specs.Prefix.{PrefixBits}
use Rattle.bgp_prefix.specs.Shown.{ShownRecord}
use Rattle.bgp_open.specs.Families.{contains}
use Rattle.bgp_open.specs.declared.families.Families.{Families}
use Rattle.bgp_rib.specs.Routes.{Routes}
use Rattle.bgp_speaker.specs.Core.{CoreState, InputValue}
use Rattle.bgp_talk.specs.Account.{Telling}
use Rattle.bgp_talk.specs.Talk.{GaveUp, Spoken}
use Rattle.bgp_talk.specs.declared.fault.SpeakFault.{SpeakFault}
use Rattle.bgp_talk.specs.declared.fault.SpeakFault.TheVariants.{Capture, Memory}
use Rattle.bgp_talk.specs.declared.options.Speaking.{Speaking}
use Rattle.bgp_talk.specs.declared.options.Start.{Start}
use Rattle.bgp_talk.specs.declared.options.Start.TheVariants.{Connect, Listen}
use Rattle.bgp_tool.specs.Answer.{IsWritten}
use Rattle.bgp_speak_tool.specs.declared.announcing.AnnounceNote.{AnnounceNote}
use Rattle.bgp_speak_tool.specs.declared.announcing.AnnounceNote.TheVariants.{Cleared, NotConfigured}
use Rattle.bgp_tool.specs.VerdictText.{route_line}

-- whether a connection is listened for, and not tried
abbrev pub listens : Start → Bool
listens (Connect port) = false
listens (Listen port) = true

-- What there is to say of the prefix that words name, before anything is spoken: that it isn't
-- announced, since its family isn't configured; or that bits after its length were cleared.
abbrev pub note_of_prefix : Families → Bool → PrefixBits → Option AnnounceNote
note_of_prefix families cleared prefix =
    if contains families prefix.family then (if cleared then Some (Cleared prefix) else None)
    else Some (NotConfigured prefix)

abbrev pub announce_note : Families → Speaking → Option AnnounceNote
announce_note families speaking =
    option_and_then (note_of_prefix families speaking.cleared) speaking.announce

-- how often the wire was read, and the routes that the peer had announced, in the order of their
-- destinations
abbrev pub report_text : ℕ → Routes → List ℕ
report_text turns routes =
    codes "turns " ++ (decimal turns ++ (codes "\n" ++ flat_map route_line routes.entries))

-- the exit status of a speaker that gave up
abbrev pub fault_status : SpeakFault → ℕ
fault_status Capture = 5
fault_status Memory = 4

-- the failures of a capture's sink after it
abbrev pub failures_by : SpeakFault → ℕ → ℕ
failures_by Capture count = count + 1
failures_by Memory count = count

-- By what a wire, the sink of its capture and the sink of the report tell: what was to be done at
-- first, in so many turns at most, from a core's state and theirs to theirs at the end.
module _ {W C O : Type 0}
    (tells : W → W → List Telling → Type 0) (takes : C → C → List ℕ → Type 0)
    (prints : O → O → List ℕ → Type 0) (capture_failures : C → ℕ) (output_failures : O → ℕ)
    (text : List ShownRecord → List ℕ) (owed : List InputValue) (limit : ℕ) (core : CoreState)
    (wire wire' : W) (capture capture' : C) (output output' : O) (status : ℕ) where
  -- The speaker came to its end, and this is told of it. The status is 0, or that of a device where
  -- it can't all be printed.
  pub record TellsReport : Type 0 where
    pub turns : ℕ
    pub routes : Routes
    pub spoken : Spoken tells takes text owed limit turns routes core wire capture wire' capture'
    pub captured : capture_failures capture' ≡ capture_failures capture
    pub printed : IsWritten prints output_failures (report_text turns routes) 0
        output output' status

  -- The speaker was cut short, and nothing is told: its capture can't be written, or memory was
  -- refused.
  pub record GivesUp : Type 0 where
    pub fault : SpeakFault
    pub cut : GaveUp tells takes text fault owed limit core wire capture wire' capture'
    pub silent : output' ≡ output
    pub counted : capture_failures capture' ≡ failures_by fault (capture_failures capture)
    pub named : status ≡ fault_status fault

  abbrev pub Speaks : Type 0
  Speaks = TellsReport ⊎ GivesUp
