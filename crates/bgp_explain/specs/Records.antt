-- What explaining the verdict on records answers, and what is told of it after the verdict.
use Rattle.std.specs.Prelude.{◌≡◌, ◌⊎◌, ◌+◌, ℕ, Bool, true, false, List, []}
use Rattle.std.specs.Prelude.{Option, None, take}
use Rattle.bgp_prefix.specs.Shown.{ShownRecord}
use Rattle.bgp_prefix.specs.declared.session.Session.{Session}
use Rattle.mrt.specs.Reader.{shown_of}
use Rattle.mrt.specs.Written.{IsAllowed}
use Rattle.bgp_open.specs.declared.config.Config.{Config}
use Rattle.bgp_judge.specs.Verdict.{IsVerdict, VerdictValue, Yes, No, Unfinished}
use Rattle.bgp_recording.specs.declared.entry.Entry.{Entry}
use Rattle.bgp_why.specs.declared.endpoint.Endpoint.{Endpoint}
use Rattle.bgp_why.specs.declared.place.Place.{Place}
use Rattle.bgp_why.specs.declared.style.Style.{Style}
use Rattle.bgp_tool.specs.Seen.{seen_in}
use Rattle.bgp_explain.specs.declared.records.ExplainedRecords.{ExplainedRecords}
use Rattle.bgp_explain.specs.Capture.{TellsDeed, TellsLinesNot, TellsWhy, TellsWhyNot}
use Rattle.bgp_explain.specs.LeftOut.{JudgesWithout}
use Rattle.bgp_explain.specs.Reason.{AreSummed, HasReason}
use Rattle.bgp_explain.specs.Tally.{tally_of, yes_lines}
use Rattle.bgp_explain.specs.Text.{no_memory_line}

-- a capture of the session may have an entry's record
abbrev pub CanBeShown : Session → Entry → Type 0
CanBeShown session entry = IsAllowed session None (shown_of entry.«record»)

-- the verdict on these records, and its reason
pub record AreExplained {X : Type 0} (config : Config) (records : List ShownRecord)
    (explained : ExplainedRecords X) : Type 0 where
  pub verdict : IsVerdict config records explained.verdict
  pub reason : HasReason config records explained.verdict explained.reason
  pub summed : AreSummed records explained.verdict explained.tally explained.seen
  pub left_out : JudgesWithout config records explained.left_out

-- What is told after the verdict on records that stand there: of a no why the next record is
-- impossible, with its line as of a capture of this session, of an unfinished what may follow, and
-- after a yes what the records are; or that memory was refused for the reason. The lines of a
-- reason are in this style.
module _ (config : Config) (style : Style) (session : Session) (places : ℕ → ℕ → Place)
    (records : List ShownRecord) where
  abbrev pub SaysOfRecords : VerdictValue → List ℕ → Type 0
  SaysOfRecords (Yes ends) more =
      more ≡ yes_lines (tally_of records) None (seen_in records).left_idle
  SaysOfRecords (No count) more =
      TellsWhyNot config style session places (take count records) (take (count + 1) records)
      more
  SaysOfRecords Unfinished more = TellsWhy config style session None places records None more

  -- where the details of the reason are there, and without a reason where they aren't
  abbrev pub SaysWhere : Bool → VerdictValue → List ℕ → Type 0
  SaysWhere detailed (Yes ends) more = SaysOfRecords (Yes ends) more
  SaysWhere true verdict more = SaysOfRecords verdict more
  SaysWhere false verdict more = more ≡ no_memory_line

  -- with a reason or without
  abbrev pub SaysOrNot : VerdictValue → List ℕ → Type 0
  SaysOrNot (Yes ends) more = SaysOfRecords (Yes ends) more
  SaysOrNot verdict more = SaysOfRecords verdict more ⊎ (more ≡ no_memory_line)

-- ---- in pieces

-- what the impossible record of a no shows was done, and what is wrong with it: nothing else
module _ (config : Config) (style : Style) (session : Session) (peer : Endpoint)
    (records : List ShownRecord) where
  abbrev pub SaysDeed : VerdictValue → List ℕ → Type 0
  SaysDeed (Yes ends) text = text ≡ []
  SaysDeed (No count) text =
      TellsDeed config style session peer (take count records) (take (count + 1) records) text
  SaysDeed Unfinished text = text ≡ []

-- the lines of the reason without the first one of a no; nothing after a yes
module _ (config : Config) (style : Style) (session : Session) (another : Option ℕ)
    (places : ℕ → ℕ → Place) (records : List ShownRecord) where
  abbrev pub SaysLines : VerdictValue → List ℕ → Type 0
  SaysLines (Yes ends) text = text ≡ []
  SaysLines (No count) text =
      TellsLinesNot config style session another places (take count records)
      (take (count + 1) records) text
  SaysLines Unfinished text = TellsWhy config style session another places records None text
