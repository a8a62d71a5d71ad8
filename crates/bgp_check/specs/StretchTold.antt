-- What is told of a stretch of a session.
use Rattle.std.specs.Prelude.{◌≡◌, ◌++◌, Bool, ℕ, List, [], ◌∷◌, Option, None, Some, map}
use Rattle.std.specs.Prelude.{slice_index_or}
use Rattle.bgp_prefix.specs.Shown.{ShownRecord}
use Rattle.bgp_prefix.specs.declared.session.Session.{Session}
use Rattle.mrt.specs.Reader.{shown_of}
use Rattle.bgp_machine.specs.Run.{end_of}
use Rattle.bgp_machine.specs.State.{fresh_state}
use Rattle.bgp_judge.specs.Verdict.{No, Unfinished, VerdictValue, Yes}
use Rattle.bgp_check.specs.Answered.{AnswerValue, IsAnswerTo, JudgedAs, Unjudged, answer_value}
use Rattle.bgp_parts.specs.Opens.{HasHeardOpen, HasOwnOpen}
use Rattle.bgp_check.specs.declared.passing.RefreshOffers.{RefreshOffers}
use Rattle.bgp_check.specs.declared.stretch.StretchTold.{StretchTold}
use Rattle.bgp_check.specs.SessionOffers.{extended_in, refresh_in}
use Rattle.bgp_check.specs.Passed.{Keeps, Left, nothing_left}

-- ---- where the stretch is left

-- It ended in Idle then, without routes, where its records and the one that leaves it begin a run;
-- and else it is a no, also at that record.
abbrev pub left_verdict : VerdictValue → VerdictValue
left_verdict (Yes ends) = Yes (end_of fresh_state ∷ [])
left_verdict (No count) = No count
left_verdict Unfinished = Yes (end_of fresh_state ∷ [])

abbrev pub left_answer : AnswerValue → AnswerValue
left_answer (Unjudged why) = Unjudged why
left_answer (JudgedAs number peer under verdict) =
    JudgedAs number peer under (left_verdict verdict)

-- and where it isn't, all of that is as it is
abbrev pub answer_by : Option ShownRecord → AnswerValue → AnswerValue
answer_by None answer = answer
answer_by (Some leaving) answer = left_answer answer

abbrev pub with_leaving : List ShownRecord → Option ShownRecord → List ShownRecord
with_leaving records None = records
with_leaving records (Some leaving) = records ++ leaving ∷ []

-- all of the stretch stand before that one
abbrev pub with_place : List ℕ → Option ShownRecord → ℕ → List ℕ
with_place places None all = places
with_place places (Some leaving) all = places ++ all ∷ []

-- ---- where a no stands

-- how many records of the stretch stand before the first impossible one, of a no: all, where that
-- is the one that leaves it
abbrev pub place_by : VerdictValue → List ℕ → ℕ → Option ℕ
place_by (Yes ends) places all = None
place_by (No count) places all = Some (slice_index_or places count all)
place_by Unfinished places all = None

abbrev pub place_of : AnswerValue → List ℕ → ℕ → Option ℕ
place_of (Unjudged why) places all = None
place_of (JudgedAs number peer under verdict) places all = place_by verdict places all

-- ---- all of it

-- whose ROUTE-REFRESH messages are passed over, by what both OPENs offer
abbrev pub offers_of : Option (List ℕ) → Option (List ℕ) → RefreshOffers
offers_of own heard = record { received = refresh_in own; sent = refresh_in heard }

-- what is told, its answer as a value
pub record ToldValue : Type 0 where
  pub answer : AnswerValue
  pub impossible : Option ℕ
  -- the records that are judged, and how many of the stretch stand before each
  pub records : List ShownRecord
  pub places : List ℕ
  pub received : ℕ
  pub sent : ℕ
  -- an extended message may be sent
  pub extended : Bool

abbrev pub told_value : {X : Type 0} → StretchTold X → ToldValue
told_value told = record {
  answer = answer_value told.answer;
  impossible = told.impossible;
  records = map shown_of told.records.items;
  places = told.places.items;
  received = told.received;
  sent = told.sent;
  extended = told.extended;
}

-- This is told of a stretch of the session with so many records, and with the one that leaves it,
-- if one does: what is answered of the records without those that are passed over.
pub record IsStretchTold (session : Session) (stretch : List ShownRecord) (all : ℕ)
    (leaving : Option ShownRecord) (told : ToldValue) : Type 0 where
  pub own : Option (List ℕ)
  pub heard : Option (List ℕ)
  pub has_own : HasOwnOpen stretch own
  pub has_heard : HasHeardOpen stretch heard
  pub left : Left
  pub keeps : Keeps (offers_of own heard) 0 stretch nothing_left left
  pub answer : AnswerValue
  pub answers : IsAnswerTo session (with_leaving left.records leaving) answer
  pub is_answer : told.answer ≡ answer_by leaving answer
  pub is_place : told.impossible ≡ place_of answer left.places all
  pub are_records : told.records ≡ with_leaving left.records leaving
  pub are_places : told.places ≡ with_place left.places leaving all
  pub is_received : told.received ≡ left.received
  pub is_sent : told.sent ≡ left.sent
  pub is_extended : told.extended ≡ extended_in heard
