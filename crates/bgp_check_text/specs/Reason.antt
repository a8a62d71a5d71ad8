-- Why a verdict on an end is a no or unfinished, and the lines that tell it.
use Rattle.std.specs.Prelude.{◌≡◌, ◌⊎◌, ◌+◌, Bool, true, false, ℕ, List, [], Option, None, Some}
use Rattle.std.specs.Prelude.{MatchOption, take}
use Rattle.std.specs.List.{AllByRecursion}
use Rattle.bgp_prefix.specs.Shown.{ShownRecord}
use Rattle.bgp_prefix.specs.declared.session.Session.{Session}
use Rattle.bgp_open.specs.Open.{open_of}
use Rattle.bgp_open.specs.declared.config.Config.{Config}
use Rattle.bgp_judge.specs.Verdict.{HasVerdict, No, Unfinished, VerdictValue, Yes}
use Rattle.bgp_check.specs.Answered.{AnswerValue, IsWidestFor, JudgedAs, Unjudged}
use Rattle.bgp_check.specs.Configurations.{own_faults}
use Rattle.bgp_parts.specs.Opens.{HasOwnOpen}
use Rattle.bgp_check.specs.declared.own_fault.OwnFault.{OwnFault}
use Rattle.bgp_check.specs.declared.peer_as.PeerAs.{PeerAs}
use Rattle.bgp_check.specs.declared.peer_as.PeerAs.TheVariants.{Any, Is, OtherThan}
use Rattle.bgp_explain.specs.KeptLines.{kept_text}
use Rattle.bgp_explain.specs.Records.{SaysDeed, SaysLines}
use Rattle.bgp_explain.specs.declared.places.Places.{Places}
use Rattle.bgp_explain.specs.declared.places.Places.TheVariants.{Counted, Numbered, Shown}
use Rattle.bgp_why.specs.declared.endpoint.Endpoint.{Endpoint}
use Rattle.bgp_why.specs.declared.place.Place.{Place}
use Rattle.bgp_why.specs.declared.other_orders.OtherOrders.{OtherOrders}
use Rattle.bgp_why.specs.declared.style.Style.{Style}
use Rattle.bgp_why_parts.specs.declared.own_faults.OwnFaults.{OwnFaults}
use Rattle.bgp_wire.specs.declared.header.Limit.{Limit}
use Rattle.bgp_check_text.specs.OwnFaults.{AreOwnFaults}
use Rattle.bgp_check_text.specs.Shown.{CanBeTold, session_at}
use Rattle.bgp_check_text.specs.declared.reason.Reason.{Reason}

-- What `bgp judge --explain` says of these records under a configuration after the verdict, in two
-- parts: what the impossible record shows was done, between the end and this peer; and the lines
-- after that. Each record has its place, and a session says how long a message may be.
abbrev pub SaysSo : Config → Style → Session → Endpoint → Option ℕ → (ℕ → ℕ → Place)
    → List ShownRecord → VerdictValue → List ℕ → List ℕ → Type 0
SaysSo config style session peer another places records verdict deed lines =
    SaysDeed config style session peer records verdict deed
    × SaysLines config style session another places records verdict lines

-- A record that was sent goes by the limit of its receiver. Nothing is said of records that no
-- capture can hold.
abbrev pub IsSaid : Config → Style → Limit → Endpoint → Option ℕ → (ℕ → ℕ → Place)
    → List ShownRecord → VerdictValue → List ℕ → List ℕ → Type 0
IsSaid config style sent peer another places records verdict deed lines =
    (AllByRecursion (CanBeTold config.parts.session sent) records
    × SaysSo config style (session_at config.parts.session sent records verdict) peer another
    places records verdict deed lines)
    ⊎ ((¬ AllByRecursion (CanBeTold config.parts.session sent) records)
    × (deed ≡ []) × (lines ≡ []))

-- ---- the style

-- the peer has to have another AS number than its OPEN says, whichever
abbrev pub is_of_another : PeerAs → Bool
is_of_another Any = false
is_of_another (Is number) = false
is_of_another (OtherThan number) = true

-- the AS number that its OPEN says, then
abbrev pub another_of : PeerAs → Option ℕ
another_of Any = None
another_of (Is number) = None
another_of (OtherThan number) = Some number

-- packets show the records
abbrev pub are_shown : Places → Bool
are_shown (Counted fractions) = false
are_shown (Shown entries) = true
are_shown (Numbered numbers) = false

-- all own faults of an OPEN, if it has one
abbrev pub AreFaultsOf : List ℕ → Option OwnFaults → Type 0
AreFaultsOf own faults = MatchOption faults
    ((fault : OwnFault) → ¬ own_faults (open_of own) fault) (AreOwnFaults (open_of own))

-- of the first OPEN that is sent, up to the record after so many: a no is at one with own faults at
-- the latest, so that the impossible record is that OPEN, where it has some
abbrev pub AreFaultsFrom : Option (List ℕ) → Option OwnFaults → Type 0
AreFaultsFrom None faults = faults ≡ None
AreFaultsFrom (Some own) faults = AreFaultsOf own faults

abbrev pub AreFaultsAt : List ShownRecord → ℕ → Option OwnFaults → Type 0
AreFaultsAt records count faults =
    (own : Option (List ℕ)) × HasOwnOpen (take (count + 1) records) own × AreFaultsFrom own faults

abbrev pub AreFaultsIn : List ShownRecord → VerdictValue → Option OwnFaults → Type 0
AreFaultsIn records (Yes ends) faults = faults ≡ None
AreFaultsIn records (No count) faults = AreFaultsAt records count faults
AreFaultsIn records Unfinished faults = faults ≡ None

-- The session's first record has that second; the peer's AS number may be free; own faults are told
-- in place of what an OPEN lacks; and this is said of other orders.
abbrev pub style_of : ℕ → Bool → PeerAs → Option OwnFaults → OtherOrders → Style
style_of first is_recording peer faults instead = record {
  first = first;
  is_recording = is_recording;
  peer_as_is_free = is_of_another peer;
  own_faults = faults;
  other_orders = instead;
}

-- ---- all of it

-- The end of this session sends what its receiver allows. Its first record has that second, its
-- records are those of a recording or not, and they stand at these places. And this is said of
-- other orders.
module _ (session : Session) (sent : Limit) (first : ℕ) (is_recording : Bool) (its_peer : Endpoint)
    (places : ℕ → ℕ → Place) (instead : OtherOrders) (records : List ShownRecord) where
  -- The configuration under which the verdict is told, and what is said of it.
  pub record IsExplained (peer : PeerAs) (config : Config) (verdict : VerdictValue)
      (deed lines : List ℕ) : Type 0 where
    pub under : IsWidestFor session records peer config
    pub holds : HasVerdict config records verdict
    pub faults : Option OwnFaults
    pub are_faults : AreFaultsIn records verdict faults
    pub is_said : IsSaid config (style_of first is_recording peer faults instead) sent its_peer
        (another_of peer) places records verdict deed lines

  -- of records that have a verdict under this configuration, whatever it is
  abbrev pub IsToldAs : PeerAs → Config → Option OwnFaults → List ℕ → List ℕ → Type 0
  IsToldAs peer config faults deed lines =
      (verdict : VerdictValue) → IsWidestFor session records peer config
      → HasVerdict config records verdict → AreFaultsIn records verdict faults
      → IsExplained peer config verdict deed lines

  -- of a yes nothing is told
  abbrev pub IsReasonOf : PeerAs → Config → VerdictValue → List ℕ → List ℕ → Type 0
  IsReasonOf peer config (Yes ends) deed lines = (deed ≡ []) × (lines ≡ [])
  IsReasonOf peer config (No count) deed lines =
      IsExplained peer config (No count) deed lines
  IsReasonOf peer config Unfinished deed lines =
      IsExplained peer config Unfinished deed lines

  abbrev pub IsReasonTo : AnswerValue → List ℕ → List ℕ → Type 0
  IsReasonTo (Unjudged why) deed lines = (deed ≡ []) × (lines ≡ [])
  IsReasonTo (JudgedAs number peer config verdict) deed lines =
      IsReasonOf peer config verdict deed lines

-- what a reason holds
abbrev pub deed_text : {X : Type 0} → Reason X → List ℕ
deed_text reason = reason.deed.items

abbrev pub lines_text : {X : Type 0} → Reason X → List ℕ
lines_text reason = kept_text reason.lines
