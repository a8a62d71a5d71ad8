-- What explaining a capture reads, writes and answers.
use Rattle.std.specs.Prelude.{◌≡◌, ◌≢◌, ◌<◌, ◌+◌, ◌^◌, ◌++◌, ◌⊎◌, ℕ, Bool, false, List}
use Rattle.std.specs.Prelude.{[], ◌∷◌}
use Rattle.std.specs.Prelude.{Option, None, Some, IfSome, IsTrue, length, take}
use Rattle.std.proofs.Common.{inl, inr}
use Rattle.bgp_prefix.specs.Shown.{ShownRecord, second_of}
use Rattle.bgp_prefix.specs.declared.session.Session.{Session}
use Rattle.bgp_open.specs.declared.config.Config.{Config}
use Rattle.mrt.specs.Capture.{Spells, micros_of}
use Rattle.bgp_reason.specs.declared.kinds.Possible.{Possible}
use Rattle.bgp_reason.specs.Asked.{AreAsked}
use Rattle.bgp_reason.specs.Possible.{ArePossible}
use Rattle.bgp_reason.specs.Sending.{sending_link}
use Rattle.bgp_reason.specs.Told.{told, last_message}
use Rattle.bgp_why.specs.declared.endpoint.Endpoint.{Endpoint}
use Rattle.bgp_why.specs.declared.place.Place.{Place}
use Rattle.bgp_why.specs.declared.style.Style.{Style}
use Rattle.bgp_why.specs.Deed.{peer_of, record_line}
use Rattle.bgp_why.specs.Style.{plain}
use Rattle.bgp_tool.specs.Judging.{SaysVerdict, TellsFault}
use Rattle.bgp_tool.specs.Seen.{seen_in}
use Rattle.bgp_verdict_lines.specs.Printed.{IsWrittenIn}
use Rattle.bgp_verdict_lines.specs.declared.form.VerdictForm.{VerdictForm}
use Rattle.bgp_explain.specs.declared.left_out.LeftOut.{LeftOut}
use Rattle.bgp_explain.specs.LeftOut.{LeavesOut}
use Rattle.bgp_explain.specs.declared.moments.Moments.{Moments}
use Rattle.bgp_explain.specs.Deed.{IsDeedOn}
use Rattle.bgp_explain.specs.Lacked.{Lacked, RecordLacks, lacked_cause}
use Rattle.bgp_explain.specs.Moments.{AreMomentsOf, first_second}
use Rattle.bgp_explain.specs.Places.{counted_places}
use Rattle.bgp_explain.specs.declared.skipped.Skipped.{Skipped}
use Rattle.bgp_explain.specs.Skipped.{skipped_of}
use Rattle.bgp_explain.specs.Tally.{tally_of, yes_lines}
use Rattle.bgp_explain.specs.Text.{no_memory_line}
use Rattle.bgp_explain.specs.Why.{IsWhy}

-- The lines on what records tell, and what may follow them: all of it, and nothing else, no kind
-- without a record of it either. The records stand at these places. Where the next one is
-- impossible, it is given with its count among them. The lines are in this style; if `another` is
-- given, they are those of each configuration with another AS number of the peer than this.
pub record TellsWhy (config : Config) (style : Style) (session : Session) (another : Option ℕ)
    (places : ℕ → ℕ → Place) (records : List ShownRecord) (next : Option (ℕ × ShownRecord))
    (text : List ℕ) : Type 0 where
  pub possible : Possible
  pub are : ArePossible config records possible
  pub asked : AreAsked config records possible
  pub timely : IfSome possible.hold_timer_expired (λ from. from < 2 ^ 32)
  pub moments : Moments
  pub are_moments : AreMomentsOf config records moments
  pub left_out : LeftOut
  pub leaves_out : LeavesOut config records left_out
  pub why : IsWhy config style session another places (told records) moments
      (sending_link config records) left_out (last_message records) possible next text

-- of the record after these, which is impossible
pub record TellsLinesNot (config : Config) (style : Style) (session : Session)
    (another : Option ℕ) (places : ℕ → ℕ → Place) (before records : List ShownRecord)
    (text : List ℕ) : Type 0 where
  pub shown : ShownRecord
  pub next : records ≡ before ++ shown ∷ []
  pub why : TellsWhy config style session another places before
      (Some (length before + 1, shown)) text

-- What the record after these shows was done, between the local system and the peer, and what is
-- wrong with it, by what could have stood in its place.
pub record IsAtFault (config : Config) (style : Style) (session : Session) (peer : Endpoint)
    (before : List ShownRecord) (shown : ShownRecord) (deed cause : List ℕ) : Type 0 where
  pub possible : Possible
  pub are : ArePossible config before possible
  pub asked : AreAsked config before possible
  pub timely : IfSome possible.hold_timer_expired (λ from. from < 2 ^ 32)
  pub lacked : Lacked
  pub are_lacks : RecordLacks config (sending_link config before) possible shown lacked
  pub is_deed : IsDeedOn session peer (sending_link config before) shown deed
  pub is_cause : cause ≡ lacked_cause style.own_faults possible lacked

pub record TellsDeed (config : Config) (style : Style) (session : Session) (peer : Endpoint)
    (before records : List ShownRecord) (text : List ℕ) : Type 0 where
  pub shown : ShownRecord
  pub next : records ≡ before ++ shown ∷ []
  pub deed : List ℕ
  pub cause : List ℕ
  pub at_fault : IsAtFault config style session peer before shown deed cause
  pub whole : text ≡ deed ++ cause

-- the line of the record after these, as of a capture of this session; and then the lines on those
-- before it
pub record TellsWhyNot (config : Config) (style : Style) (session : Session)
    (places : ℕ → ℕ → Place) (before records : List ShownRecord) (text : List ℕ) : Type 0 where
  pub shown : ShownRecord
  pub next : records ≡ before ++ shown ∷ []
  pub deed : List ℕ
  pub cause : List ℕ
  pub at_fault : IsAtFault config style session (peer_of session) before shown deed cause
  pub rest : List ℕ
  pub why : TellsWhy config style session None places before (Some (length before + 1, shown))
      rest
  pub whole : text
      ≡ record_line (places (length before + 1) (second_of shown)) session.local deed cause
      ++ rest

-- `bgp judge` takes each number from the configuration, and leaves out the date of the day of the
-- first record
abbrev pub judge_style : List ShownRecord → Style
judge_style records = plain (first_second records) false

-- What is told after a verdict: of a no why the next record is impossible, of an unfinished what
-- may follow, and after a yes what its records are, and what was skipped. Beside the records there
-- are the fractions of their seconds.
module _ (config : Config) (records : List ShownRecord) (micros : List (Option ℕ))
    (skipped : Skipped) (first : List ℕ) (status : ℕ) where
  abbrev pub SaysMore : SaysVerdict config records first status → List ℕ → Type 0
  SaysMore (inl says) more =
      more ≡ yes_lines (tally_of records) (Some skipped) (seen_in records).left_idle
  SaysMore (inr (inl denies)) more =
      TellsWhyNot config (judge_style records) config.parts.session (counted_places micros)
      (take denies.count records) (take (denies.count + 1) records) more
  SaysMore (inr (inr unfinished)) more =
      TellsWhy config (judge_style records) config.parts.session None (counted_places micros)
      records None more

-- the text of the verdict, and after it why it is so
pub record SaysExplained (config : Config) (records : List ShownRecord)
    (micros : List (Option ℕ)) (skipped : Skipped) (text : List ℕ) (status : ℕ) : Type 0 where
  pub first : List ℕ
  pub more : List ℕ
  pub says : SaysVerdict config records first status
  pub explains : SaysMore config records micros skipped first status says more
  pub whole : text ≡ first ++ more

-- the source was read to its end, its octets spell records, and this explains the verdict on them
pub record TellsExplained {R : Type 0} (gives : R → R → List ℕ → Type 0) (has_ended : R → Bool)
    (failures : R → ℕ) (config : Config) (source source' : R) (text : List ℕ) (status : ℕ)
    : Type 0 where
  pub octets : List ℕ
  pub records : List ShownRecord
  pub gave : gives source source' octets
  pub ended : IsTrue (has_ended source')
  pub spells : Spells config.parts.session octets records
  pub says : SaysExplained config records (micros_of spells.pieces) (skipped_of spells.pieces) text
      status
  pub counted : failures source' ≡ failures source

-- the text of a verdict other than yes, and after it that memory was refused for its reason
pub record SaysUnexplained (config : Config) (records : List ShownRecord) (text : List ℕ)
    (status : ℕ) : Type 0 where
  pub first : List ℕ
  pub says : SaysVerdict config records first status
  pub no_yes : status ≢ 0
  pub whole : text ≡ first ++ no_memory_line

-- The source was read to its end, its octets spell records, and this is the verdict on them; but
-- memory was refused for its reason.
pub record TellsVerdict {R : Type 0} (gives : R → R → List ℕ → Type 0) (has_ended : R → Bool)
    (failures : R → ℕ) (config : Config) (source source' : R) (text : List ℕ) (status : ℕ)
    : Type 0 where
  pub octets : List ℕ
  pub records : List ShownRecord
  pub gave : gives source source' octets
  pub ended : IsTrue (has_ended source')
  pub spells : Spells config.parts.session octets records
  pub says : SaysUnexplained config records text status
  pub counted : failures source' ≡ failures source

-- The verdict is told and explained, or the fault is told, of which those of memory are the
-- tracker's; or the verdict is told without its reason. In this form all of its text was written, if
-- the sink didn't fail, and then the status is its own; and else a beginning, and the status is 5.
pub record ExplainsCapture {R W : Type 0} (form : VerdictForm) (gives : R → R → List ℕ → Type 0)
    (has_ended : R → Bool) (takes : W → W → List ℕ → Type 0) (source_failures : R → ℕ)
    (failures : W → ℕ) (config : Config) (source source' : R)
    (may_lack : Config → List ShownRecord → ShownRecord → Type 0) (sink sink' : W) (status : ℕ)
    : Type 0 where
  pub text : List ℕ
  pub code : ℕ
  pub answer : TellsExplained gives has_ended source_failures config source source' text code
      ⊎ TellsFault gives has_ended source_failures config source source' may_lack text code
      ⊎ TellsVerdict gives has_ended source_failures config source source' text code
  pub wrote : IsWrittenIn form takes failures text code sink sink' status

-- ---- the laws

-- what is explained, or told without its reason, begins with what is judged
abbrev pub ExplainedAsJudged : Type 0
ExplainedAsJudged =
    (config : Config) (octets : List ℕ) (records also : List ShownRecord)
    (micros : List (Option ℕ)) (skipped : Skipped) (text other : List ℕ) (status code : ℕ)
    → Spells config.parts.session octets records
    → SaysExplained config records micros skipped text status
    ⊎ SaysUnexplained config records text status
    → Spells config.parts.session octets also → SaysVerdict config also other code
    → (status ≡ code) × ((more : List ℕ) × (text ≡ other ++ more))

-- What explains the verdict on a capture is one text: two that explain it are equal.
abbrev pub HasOneText : Type 0
HasOneText =
    (config : Config) (octets : List ℕ) (records also : List ShownRecord) (text other : List ℕ)
    (status code : ℕ)
    → (spells : Spells config.parts.session octets records)
    → SaysExplained config records (micros_of spells.pieces) (skipped_of spells.pieces) text status
    → (spelled : Spells config.parts.session octets also)
    → SaysExplained config also (micros_of spelled.pieces) (skipped_of spelled.pieces) other code
    → (text ≡ other) × (status ≡ code)
