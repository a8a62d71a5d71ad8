-- The stream that a connection's segments spell in one direction (RFC 9293, 3.4): the octets of
-- each segment, but those that were acknowledged before, stand at their places in it, each of its
-- octets is given, each FIN stands right after it, and nothing is acknowledged that it lacks. The
-- segments are told from the last one back to the first.
use Rattle.std.specs.Prelude.{ℕ, ◌≡◌, ◌<◌, ◌≤◌, ◌+◌, ◌⊎◌, List, [], ◌∷◌, ◌++◌, Option, Some, None}
use Rattle.std.specs.Prelude.{true, false, cond, length, get_or, min}
use Rattle.std.specs.List.{slice_get}
use Rattle.std.specs.Option.{is_some}
use Rattle.streams.specs.declared.connection.Connection.{Connection}
use Rattle.streams.specs.declared.fault.Fault.TheVariants as faults
use Rattle.streams.specs.declared.gathered.Given.{Given}
use Rattle.streams.specs.declared.passed.Side.{Side}
use Rattle.streams.specs.declared.passed.Side.TheVariants.{Local, Peer}
use Rattle.streams.specs.Passed.{Segment, is_side}
use Rattle.streams.specs.Places.{after, shown_by_acknowledgment}
use Rattle.streams.specs.History.{start_of, given_of, next_of, placed, fin_of}
use Rattle.streams.specs.Refusals.{first_fault}
use Rattle.streams.specs.Choice.{refusal_of, numbered_one, IsAnswered}

-- the segment's octets stand in the stream at their places, and its FIN right after it
pub record Stands (stream : List ℕ) (s : Segment) (before : List Segment) : Type 0 where
  pub octets : (i : ℕ) → i < length (placed s before).octets →
      slice_get stream ((placed s before).first + i) ≡ Some (get_or (placed s before).octets i 0)
  pub fin : s.fin ≡ true → after (placed s before) ≡ length stream

-- those of each segment of the side do
abbrev pub AllStand : Side → List Segment → List ℕ → Type 0
AllStand side [] stream = Unit {0}
AllStand side (s ∷ before) stream =
    (s.sender ≡ side → Stands stream s before) × AllStand side before stream

-- no segment of the other side acknowledges a place that isn't below this one
abbrev pub AcknowledgeBelow : Side → List Segment → ℕ → Type 0
AcknowledgeBelow side [] limit = Unit {0}
AcknowledgeBelow side (s ∷ before) limit =
    (is_side s.sender side ≡ false → shown_by_acknowledgment (start_of side before)
    (next_of side before) s.acknowledgment s.rst ≤ limit)
    × AcknowledgeBelow side before limit

-- a FIN is acknowledged as one octet is
abbrev pub fin_count : Side → List Segment → ℕ
fin_count side segments = cond (is_some (fin_of side segments)) 1 0

-- the segments spell the stream of the side
pub record Spell (side : Side) (segments : List Segment) (stream : List ℕ) : Type 0 where
  pub stand : AllStand side segments stream
  pub given : (place : ℕ) → place < length stream → is_some (given_of side segments place) ≡ true
  pub acknowledged : AcknowledgeBelow side segments (length stream + fin_count side segments)

-- they spell none
abbrev pub SpellNone : Side → List Segment → Type 0
SpellNone side segments = (stream : List ℕ) → Spell side segments stream → ⊥

-- the segment's octet is the one that was given before at its place, if one was, and stands before
-- the FIN, if there was one
pub record Agrees (s : Segment) (before : List Segment) (i : ℕ) : Type 0 where
  pub same : (given : Given) →
      given_of s.sender before ((placed s before).first + i) ≡ Some given →
      given.octet ≡ get_or (placed s before).octets i 0
  pub within : (fin : ℕ) → fin_of s.sender before ≡ Some fin → (placed s before).first + i < fin

-- the segment's octet at the place doesn't agree
pub record IsOtherOctet (s : Segment) (before : List Segment) (place : ℕ) : Type 0 where
  pub i : ℕ
  pub within : i < length (placed s before).octets
  pub at : place ≡ (placed s before).first + i
  pub differs : Agrees s before i → ⊥

-- its FIN stands elsewhere than the one before it: the place is the lesser of theirs
pub record IsOtherFin (s : Segment) (before : List Segment) (place : ℕ) : Type 0 where
  pub has_fin : s.fin ≡ true
  pub fin : ℕ
  pub had_fin : fin_of s.sender before ≡ Some fin
  pub differs : fin ≡ after (placed s before) → ⊥
  pub at : place ≡ min fin (after (placed s before))

-- its FIN stands at the place, which isn't after all octets given
pub record IsEarlyFin (s : Segment) (before : List Segment) (place : ℕ) : Type 0 where
  pub has_fin : s.fin ≡ true
  pub at : place ≡ after (placed s before)
  pub later : ℕ
  pub after_it : place ≤ later
  pub given : is_some (given_of s.sender (s ∷ before) later) ≡ true

-- a segment of the packet is the first that contradicts those before it, and does at this place:
-- its octets at lesser places agree with them
pub record IsConflict (segments : List Segment) (packet : ℕ) (side : Side) (place : ℕ) : Type 0
  where
    pub s : Segment
    pub before : List Segment
    pub later : List Segment
    pub among : segments ≡ later ++ (s ∷ before)
    pub is_packet : s.packet ≡ packet
    pub is_sender : s.sender ≡ side
    pub fine : first_fault before ≡ None
    pub agree : (i : ℕ) → i < length (placed s before).octets →
        (placed s before).first + i < place → Agrees s before i
    pub contradicts : IsOtherOctet s before place ⊎ IsOtherFin s before place
        ⊎ IsEarlyFin s before place

-- the place is that of the first octet that isn't given
pub record IsFirstHole (side : Side) (segments : List Segment) (place : ℕ) : Type 0 where
  pub below : (at : ℕ) → at < place → is_some (given_of side segments at) ≡ true
  pub lacks : given_of side segments place ≡ None

-- segments spell at most one stream of a side
abbrev pub SpellAtMostOne : Type 0
SpellAtMostOne = (side : Side) (segments : List Segment) (one other : List ℕ) →
    Spell side segments one → Spell side segments other → one ≡ other

-- the segments of a connection that is answered spell both its streams
abbrev pub AnsweredIsSpelled : Type 0
AnsweredIsSpelled = (number : Option ℕ) (last_packet : ℕ) (connections : List (List Segment))
    (connection : Connection) → IsAnswered number last_packet connections connection →
    Spell Peer (numbered_one connections connection.number) connection.received.octets.now
    × Spell Local (numbered_one connections connection.number) connection.sent.octets.now

-- where a connection is refused by a conflict, its segments spell no stream of that side, and the
-- conflict is the first
abbrev pub ConflictIsFirst : Type 0
ConflictIsFirst = (segments : List Segment) (packet : ℕ) (side : Side) (place : ℕ) →
    refusal_of segments ≡ Some (faults.Conflict packet side place) →
    IsConflict segments packet side place × SpellNone side segments

-- where it is refused by what is missing, they spell none, and the octet missing is the first
abbrev pub MissingIsFirst : Type 0
MissingIsFirst = (segments : List Segment) (packet : ℕ) (side : Side) (place : ℕ) →
    refusal_of segments ≡ Some (faults.Missing packet side place) →
    IsFirstHole side segments place × SpellNone side segments
