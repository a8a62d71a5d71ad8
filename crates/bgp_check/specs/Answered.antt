-- What is answered of an end of a session: why it isn't judged, or the verdict on its records.
use Rattle.std.specs.Prelude.{◌≡◌, ◌<◌, ◌+◌, Bool, true, false, ℕ, List, Option, None, Some}
use Rattle.std.specs.Prelude.{option_map, take}
use Rattle.bgp_prefix.specs.Shown.{ShownRecord}
use Rattle.bgp_prefix.specs.declared.session.Session.{Session}
use Rattle.bgp_open.specs.declared.config.Config.{Config}
use Rattle.bgp_open.specs.declared.config.ConfigParts.{ConfigParts}
use Rattle.bgp_open.specs.Open.{OpenFields, open_of}
use Rattle.bgp_machine.specs.Lists.{Has}
use Rattle.bgp_machine.specs.Run.{Begins}
use Rattle.bgp_judge.specs.Verdict.{HasVerdict, No, Unfinished, VerdictValue, Yes, verdict_value}
use Rattle.bgp_check.specs.declared.answering.Answer.{Answer}
use Rattle.bgp_check.specs.declared.answering.Answer.TheVariants as answers
use Rattle.bgp_check.specs.declared.not_judged.NotJudged.{NotJudged}
use Rattle.bgp_check.specs.declared.own_fault.OwnFault.{OwnFault}
use Rattle.bgp_check.specs.declared.peer_as.PeerAs.{PeerAs}
use Rattle.bgp_check.specs.declared.peer_as.PeerAs.TheVariants.{Any, Is, OtherThan}
use Rattle.bgp_check.specs.declared.widest.Widest.{Widest}
use Rattle.bgp_check.specs.Checked.{IsTold, IsUnder}
use Rattle.bgp_check.specs.Configurations.{IsOf, as_of, own_faults}
use Rattle.bgp_check.specs.NotJudged.{IsWhyNot}
use Rattle.bgp_parts.specs.Opens.{HasOwnOpen, HasPeersOpen}
use Rattle.bgp_check.specs.Over.{HasVerdictOver}
use Rattle.bgp_check.specs.Stretch.{IsStretch}
use Rattle.bgp_check.specs.WidestMade.{IsFaultless, configurations_of}
use Rattle.bgp_check.specs.WidestOf.{AreTold, BothParts, parts_of, widest_of}

-- ---- an own OPEN with a fault

-- there is one, and it has this own fault
abbrev pub HasFault : Option (List ℕ) → OwnFault → Type 0
HasFault None fault = ⊥
HasFault (Some own) fault = own_faults (open_of own) fault

-- one of the widest configurations, which stand for those that such an OPEN doesn't have
abbrev pub IsAmong : Widest → Config → Type 0
IsAmong widest config = Has (λ c. c ≡ config) (configurations_of widest)

-- a no, at the OPEN at the latest
abbrev pub IsNoByOpen : Option (List ℕ) → List ShownRecord → VerdictValue → Type 0
IsNoByOpen own records (Yes ends) = ⊥
IsNoByOpen own records (No count) = (n : ℕ) → HasOwnOpen (take n records) own → count < n
IsNoByOpen own records Unfinished = ⊥

-- ---- for which peer the verdict is told

-- the AS number that is wanted of the peer: 0 where its OPEN says 0, which no configuration wants;
-- it plays no part where the OPEN's fields can't be told
abbrev pub heard_as : Option Config → ℕ
heard_as None = 0
heard_as (Some wanting) = wanting.parts.peer_as

abbrev pub peer_as_by : Bool → Option OpenFields → ℕ → PeerAs
peer_as_by wants None number = Any
peer_as_by true (Some peers) number = Is number
peer_as_by false (Some peers) number = OtherThan number

-- ---- the answer

abbrev pub number_of : Option (List ℕ) → Option ℕ
number_of own = option_map (λ octets. as_of (open_of octets)) own

-- an answer, its verdict as a value
pub data AnswerValue : Type 0 where
  Unjudged : NotJudged → AnswerValue
  -- the end's AS number, that which the peer has to have, the verdict, and before it the
  -- configuration under which the records have it
  JudgedAs : Option ℕ → PeerAs → Config → VerdictValue → AnswerValue

abbrev pub answer_value : {X : Type 0} → Answer X → AnswerValue
answer_value (answers.NotJudged why) = Unjudged why
answer_value (answers.Judged judged) =
    JudgedAs judged.as_number judged.peer_as judged.under (verdict_value judged.verdict)

-- These records of the session are judged, with this verdict: that over all configurations under
-- which the OPEN that was sent is the local system's own. Where it has an own fault there is none,
-- and the verdict is a no. It is told under one of the widest configurations.
pub record IsJudged (session : Session) (records : List ShownRecord) (number : Option ℕ)
    (peer : PeerAs) (under : Config) (verdict : VerdictValue) : Type 0 where
  pub own : Option (List ℕ)
  pub peers : Option (List ℕ)
  pub told : Option OpenFields
  pub widest : Widest
  pub wants : Bool
  pub none : IsWhyNot records None
  pub has_own : HasOwnOpen records own
  pub has_peers : HasPeersOpen records peers
  pub are_told : AreTold peers told
  pub made : parts_of widest ≡ widest_of session (option_map open_of own) told
  pub is_told : IsTold widest records wants verdict
  pub is_under : IsUnder widest wants under
  pub over : IsStretch records → IsFaultless own
      → HasVerdictOver (IsOf session own) records verdict
  pub among : (fault : OwnFault) → HasFault own fault
      → HasVerdictOver (IsAmong widest) records verdict
  pub by_open : (fault : OwnFault) → HasFault own fault → IsNoByOpen own records verdict
  pub is_number : number ≡ number_of own
  pub is_peer : peer ≡ peer_as_by wants told (heard_as widest.wanting)

-- this is answered of the records of an end of the session
abbrev pub IsAnswerTo : Session → List ShownRecord → AnswerValue → Type 0
IsAnswerTo session records (Unjudged why) = IsWhyNot records (Some why)
IsAnswerTo session records (JudgedAs number peer under verdict) =
    IsJudged session records number peer under verdict

-- ---- the configuration under which the verdict is told

-- of both the one that wants the AS number of the peer's OPEN, where that is told; else the other
abbrev pub parts_for : PeerAs → BothParts → Option ConfigParts
parts_for (Is number) both = both.wanting
parts_for Any both = Some both.another
parts_for (OtherThan number) both = Some both.another

-- it is one of the widest configurations, by the first OPEN that was sent and the first that was
-- received
pub record IsWidestFor (session : Session) (records : List ShownRecord) (peer : PeerAs)
    (config : Config) : Type 0 where
  pub own : Option (List ℕ)
  pub peers : Option (List ℕ)
  pub told : Option OpenFields
  pub has_own : HasOwnOpen records own
  pub has_peers : HasPeersOpen records peers
  pub are_told : AreTold peers told
  pub made : Some config.parts ≡ parts_for peer (widest_of session (option_map open_of own) told)

-- ---- the laws

-- What is told of records with an OPEN that has an own fault is the verdict over the widest
-- configurations, and a no, at that OPEN at the latest.
abbrev pub FaultIsANo : Type 0
FaultIsANo =
    (own : List ℕ) (fault : OwnFault) (widest : Widest) (records : List ShownRecord)
    (wants : Bool) (verdict : VerdictValue) → own_faults (open_of own) fault
    → HasOwnOpen records (Some own) → IsTold widest records wants verdict
    → HasVerdictOver (IsAmong widest) records verdict × IsNoByOpen (Some own) records verdict

-- under the configuration that is kept with it the records have the verdict that is told, and it is
-- one of the widest
abbrev pub HasItsVerdict : Type 0
HasItsVerdict =
    (session : Session) (records : List ShownRecord) (number : Option ℕ) (peer : PeerAs)
    (under : Config) (verdict : VerdictValue)
    → IsJudged session records number peer under verdict
    → HasVerdict under records verdict × IsWidestFor session records peer under

-- A no after so many records says that no configuration under which the OPEN that was sent is the
-- end's own has a run that shows these and one more; nor one, then, that shows all of the records.
abbrev pub NoConfigurationExplains : Type 0
NoConfigurationExplains =
    (session : Session) (records : List ShownRecord) (number : Option ℕ) (peer : PeerAs)
    (under : Config) (count : ℕ) (own : Option (List ℕ)) (config : Config) → IsStretch records
    → IsAnswerTo session records (JudgedAs number peer under (No count))
    → HasOwnOpen records own → IsOf session own config
    → (¬ Begins config (take (count + 1) records)) × (¬ Begins config records)
