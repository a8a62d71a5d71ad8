-- What is known to have been sent: what stands below an octet given, below the FIN, or is
-- acknowledged by a segment of the other side without RST.
use Rattle.std.specs.Prelude.{ℕ, ◌+◌, ◌-◌, List, [], ◌∷◌, Option, Some, None, cond, Bool}
use Rattle.std.specs.Prelude.{false, not, ◌||◌, ◌&&◌, nat_lt, nat_eq, length}
use Rattle.std.specs.Option.{option_or, is_some, is_none}
use Rattle.streams.specs.declared.passed.Side.{Side}
use Rattle.streams.specs.Passed.{Segment, is_side}
use Rattle.streams.specs.Places.{Piece, after, shown_by_acknowledgment}
use Rattle.streams.specs.History.{start_of, next_of, placed, fin_of}

-- what stands below this place was sent, as the piece and its FIN show
abbrev pub shown_by_piece : Piece → Bool → ℕ
shown_by_piece piece fin = cond fin (after piece) (after piece - 1)

-- what stands below this place of the side's stream was sent, as the segment shows
abbrev pub shown_by : Side → Segment → List Segment → ℕ
shown_by side s before = cond (is_side s.sender side)
    (cond (nat_lt 0 (length (placed s before).octets) || s.fin)
    (shown_by_piece (placed s before) s.fin) 0)
    (shown_by_acknowledgment (start_of side before) (next_of side before) s.acknowledgment s.rst)

-- the first packet that shows that the octet at the place was sent
unfoldable pub first_shown : Side → List Segment → ℕ → Option ℕ
first_shown side [] place = None
first_shown side (s ∷ before) place = option_or (first_shown side before place)
    (cond (nat_lt place (shown_by side s before)) (Some s.packet) None)

-- a place is the FIN's
abbrev pub is_fin : Option ℕ → ℕ → Bool
is_fin None place = false
is_fin (Some fin) place = nat_eq fin place

-- the first packet that shows that the side sent an octet which isn't given: the first such octet
-- has the place `next_of`. A FIN that stands there is acknowledged as an octet is, and is none
abbrev pub missing : Side → List Segment → Option ℕ
missing side segments = cond (is_fin (fin_of side segments) (next_of side segments))
    (first_shown side segments (next_of side segments + 1))
    (first_shown side segments (next_of side segments))

-- a segment acknowledges what the other side sent: it has an ACK, and no RST
abbrev pub acknowledges : Segment → Bool
acknowledges s = is_some s.acknowledgment && not s.rst

-- the first packet of the other side that acknowledges what the side sent
abbrev pub first_acknowledged : Side → List Segment → Option ℕ
first_acknowledged side [] = None
first_acknowledged side (s ∷ before) = option_or (first_acknowledged side before)
    (cond (not (is_side s.sender side) && acknowledges s) (Some s.packet) None)

-- the same, of a side whose SYN isn't in the connection: half of it is in the recording
abbrev pub half_shown : Side → List Segment → Option ℕ
half_shown side segments =
    cond (is_none (start_of side segments)) (first_acknowledged side segments) None
