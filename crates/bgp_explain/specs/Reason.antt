-- Why a verdict on a session's records is a no or unfinished.
use Rattle.std.specs.Prelude.{◌≡◌, ◌<◌, ◌+◌, ◌^◌, ◌++◌, List, [], ◌∷◌, Option, None, Some}
use Rattle.std.specs.Prelude.{IfSome, length, take}
use Rattle.bgp_prefix.specs.Shown.{ShownRecord}
use Rattle.bgp_open.specs.declared.config.Config.{Config}
use Rattle.bgp_machine.specs.Run.{Begins}
use Rattle.bgp_judge.specs.declared.verdict.Verdict.{Verdict}
use Rattle.bgp_judge.specs.declared.verdict.Verdict.TheVariants.{Yes, No, Unfinished}
use Rattle.bgp_reason.specs.Asked.{AreAsked}
use Rattle.bgp_reason.specs.Possible.{ArePossible}
use Rattle.bgp_reason.specs.Sending.{sending_link}
use Rattle.bgp_reason.specs.Told.{told, last_message}
use Rattle.bgp_explain.specs.declared.explained.Reason.{Reason}
use Rattle.bgp_explain.specs.declared.explained.Impossible.{Impossible}
use Rattle.bgp_tool.specs.declared.seen.Seen.{Seen}
use Rattle.bgp_tool.specs.Seen.{seen_in}
use Rattle.bgp_explain.specs.declared.tally.Tally.{Tally}
use Rattle.bgp_explain.specs.Kept.{shown_by}
use Rattle.bgp_explain.specs.LeftOut.{LeavesOut}
use Rattle.bgp_explain.specs.Moments.{AreMomentsOf}
use Rattle.bgp_explain.specs.Tally.{tally_of}

-- It is the reason at the end of these records: what they tell, and what may follow them. Each kind
-- is told by itself, also one of which no record is, as an UPDATE where there is no link; and
-- seconds have 32 bits.
pub record IsReasonAt {X : Type 0} (config : Config) (records : List ShownRecord)
    (reason : Reason X) : Type 0 where
  pub told : reason.told ≡ told records
  pub moments : AreMomentsOf config records reason.moments
  pub link : reason.link ≡ sending_link config records
  pub left_out : LeavesOut config records reason.left_out
  pub last_message : reason.last_message.items ≡ last_message records
  pub possible : ArePossible config records reason.possible
  pub asked : AreAsked config records reason.possible
  pub timely : IfSome reason.possible.hold_timer_expired (λ from. from < 2 ^ 32)

-- A record with which those before it begin no run is kept with its number.
pub record IsImpossible {X : Type 0} (config : Config) (before : List ShownRecord)
    (impossible : Impossible X) : Type 0 where
  pub number : impossible.number ≡ length before + 1
  pub stops : ¬ Begins config (before ++ shown_by impossible.«record» ∷ [])

-- it is the one after those before it
abbrev pub IsNext : {X : Type 0} → Config → List ShownRecord → Option (Impossible X)
    → List ShownRecord → Type 0
IsNext config before None records = ⊥
IsNext config before (Some impossible) records =
    IsImpossible config before impossible
    × (records ≡ before ++ shown_by impossible.«record» ∷ [])

-- after a yes all records are summed up
abbrev pub AreSummed : {X : Type 0} → List ShownRecord → Verdict X → Tally → Seen → Type 0
AreSummed records (Yes ends) tally seen = (tally ≡ tally_of records) × (seen ≡ seen_in records)
AreSummed records verdict tally seen = Unit {0}

-- A verdict has this reason. Of a no it is that of the records before the first impossible one, and
-- this one is kept; a yes has none, and another verdict none where memory was refused for it.
abbrev pub HasReason : {X Y : Type 0} → Config → List ShownRecord → Verdict X
    → Option (Reason Y) → Type 0
HasReason config records (Yes ends) reason = reason ≡ None
HasReason config records (No count) None = Unit {0}
HasReason config records (No count) (Some reason) =
    IsReasonAt config (take count records) reason
    × IsNext config (take count records) reason.impossible (take (count + 1) records)
HasReason config records Unfinished None = Unit {0}
HasReason config records Unfinished (Some reason) =
    IsReasonAt config records reason × (reason.impossible ≡ None)
