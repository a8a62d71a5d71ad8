-- What the core answers to an input: the records of its choice, and the octets of what it sends.
use Rattle.std.specs.Prelude.{◌≡◌, ℕ, List, [], map}
use Rattle.bgp_prefix.specs.Shown.{ShownRecord}
use Rattle.bgp_speaker.specs.declared.draft.Draft.{Draft}
use Rattle.bgp_speaker.specs.declared.engine.Output.{Output}
use Rattle.bgp_speaker.specs.Choosing.{Chooses, held_after, sent_in}
use Rattle.bgp_speaker.specs.Core.{CoreState, InputValue, Moment}
use Rattle.bgp_speaker.specs.Drafts.{moment_of, shown_in}
use Rattle.bgp_speaker.specs.Shown.{shown_value}

pub record Answers {X : Type 0} (s : CoreState) (input : InputValue) (second : ℕ) (out : Output X)
    (s2 : CoreState) : Type 0 where
  pub records : List ShownRecord
  pub chooses : Chooses s input second records s2
  pub records_are : map shown_value out.records.items ≡ records
  pub octets_are : out.octets.items ≡ sent_in records

-- nothing is done yet
pub record IsFreshDraft {X : Type 0} (s : CoreState) (d : Draft X) : Type 0 where
  pub moment : moment_of s.moment.session.routes d ≡ s.moment
  pub records : shown_in d ≡ []
  pub octets : d.octets.items ≡ []

-- the answer shows what the draft did
abbrev pub IsShownBy : {X : Type 0} → Draft X → Output X → Type 0
IsShownBy d out = (out.records ≡ d.records) × (out.octets ≡ d.octets)

-- the core after its steps, where the octets that it held are held still
abbrev pub state_after : CoreState → Moment → ℕ → CoreState
state_after s e second = record {
  speaker = s.speaker;
  moment = e;
  kept = s.kept;
  second = second;
  held = held_after e.session.head s.held;
}
