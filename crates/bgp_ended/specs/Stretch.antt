-- How a stretch of a session in a capture ended: by its first whole NOTIFICATION, sent or received;
-- without one by its last record, if that is a change to Idle.
use Rattle.std.specs.Prelude.{◌≡◌, ◌++◌, ℕ, List, [], ◌∷◌, Option, None, Some, length}
use Rattle.std.specs.List.{AllByRecursion}
use Rattle.streams.specs.declared.passed.Side.{Side}
use Rattle.streams.specs.declared.passed.Side.TheVariants.{Local, Peer}
use Rattle.bgp_prefix.specs.Shown.{ShownRecord, Received, Sent, Changed, second_of}
use Rattle.bgp_open.specs.Notification.{IsNotification}
use Rattle.bgp_ended.specs.Values.{HowValue, Notified, Closed, Fallen, how_value}
use Rattle.bgp_ended.specs.declared.stretch.EndedStretch.{EndedStretch}

-- its fields, wherever the octets lie
pub record EndedStretchValue : Type 0 where
  pub before : ℕ
  pub second : ℕ
  pub by : Side
  pub how : HowValue

abbrev pub ended_stretch_value : EndedStretch → EndedStretchValue
ended_stretch_value ended = record {
  before = ended.before;
  second = ended.second;
  by = ended.by;
  how = how_value ended.how;
}

-- ---- one record

-- the octets are a whole NOTIFICATION of any length, by which it ended so
abbrev pub IsErrorOf : HowValue → List ℕ → Type 0
IsErrorOf (Notified error) octets =
    IsNotification octets error.code error.subcode error.detail
IsErrorOf (Closed closing) octets = ⊥
IsErrorOf (Fallen state) octets = ⊥

-- they are none
abbrev pub IsNoError : List ℕ → Type 0
IsNoError octets =
    (code subcode : ℕ) (detail : List ℕ) → ¬ IsNotification octets code subcode detail

-- the record shows that this system sent such a NOTIFICATION
abbrev pub ShowsError : ShownRecord → Side → HowValue → Type 0
ShowsError (Received second octets) side how = (side ≡ Peer) × IsErrorOf how octets
ShowsError (Sent second octets) side how = (side ≡ Local) × IsErrorOf how octets
ShowsError (Changed second old new) side how = ⊥

-- it shows none
abbrev pub ShowsNoError : ShownRecord → Type 0
ShowsNoError (Received second octets) = IsNoError octets
ShowsNoError (Sent second octets) = IsNoError octets
ShowsNoError (Changed second old new) = Unit {0}

-- it is a change from this state to Idle
abbrev pub FallsFrom : ShownRecord → ℕ → Type 0
FallsFrom (Received second octets) state = ⊥
FallsFrom (Sent second octets) state = ⊥
FallsFrom (Changed second old new) state = (old ≡ state) × (new ≡ 1)

-- it is none
abbrev pub StaysUp : ShownRecord → Type 0
StaysUp shown = (state : ℕ) → ¬ FallsFrom shown state

-- ---- all of them

-- the record before these ones ended the stretch so, by this system: a fall is the last record
abbrev pub EndsAs : HowValue → Side → ShownRecord → List ShownRecord → Type 0
EndsAs (Notified error) side shown behind = ShowsError shown side (Notified error)
EndsAs (Closed closing) side shown behind = ⊥
EndsAs (Fallen state) side shown behind =
    FallsFrom shown state × (side ≡ Local) × (behind ≡ [])

-- the record behind so many ended the stretch, and none before it shows a NOTIFICATION
pub record IsEnd (records : List ShownRecord) (ended : EndedStretchValue) : Type 0 where
  pub front : List ShownRecord
  pub shown : ShownRecord
  pub behind : List ShownRecord
  pub whole : records ≡ front ++ shown ∷ behind
  pub before : ended.before ≡ length front
  pub second : ended.second ≡ second_of shown
  pub none : AllByRecursion ShowsNoError front
  pub ends : EndsAs ended.how ended.by shown behind

-- none did: no record shows a NOTIFICATION, and the last one is no change to Idle
pub record HasNoEnd (records : List ShownRecord) : Type 0 where
  pub none : AllByRecursion ShowsNoError records
  pub stays : (front : List ShownRecord) (last : ShownRecord)
      → records ≡ front ++ last ∷ [] → StaysUp last

abbrev pub IsEndOf : List ShownRecord → Option EndedStretchValue → Type 0
IsEndOf records None = HasNoEnd records
IsEndOf records (Some ended) = IsEnd records ended
