-- What a connection's segments give, in each direction. The segments so far are told from the last
-- one back to the first: of `s ∷ before`, `s` came last.
use Rattle.std.specs.Prelude.{ℕ, ◌+◌, List, [], ◌∷◌, Option, Some, None, cond, Bool}
use Rattle.std.specs.Prelude.{false, ◌||◌, ◌&&◌, max, length, nat_lt, suc, zero}
use Rattle.std.specs.Option.{option_or, is_some}
use Rattle.streams.specs.declared.passed.Side.{Side}
use Rattle.streams.specs.declared.gathered.Given.{Given}
use Rattle.streams.specs.Given.{piece_at}
use Rattle.streams.specs.Passed.{Segment, giver_of, is_side}
use Rattle.streams.specs.Places.{Piece, piece_of, after, kept_from, shown_by_acknowledgment}

-- the sequence number of the side's SYN, if it has one
abbrev pub start_of : Side → List Segment → Option ℕ
start_of side [] = None
start_of side (s ∷ before) = option_or (start_of side before)
    (cond (is_side s.sender side && s.syn) (Some s.sequence) None)

-- how many octets the side's segments have
abbrev pub count_of : Side → List Segment → ℕ
count_of side [] = 0
count_of side (s ∷ before) =
    count_of side before + cond (is_side s.sender side) (length s.octets) 0

-- the first place from this one on that isn't given; it is at most so many places away
abbrev pub first_hole : (ℕ → Option Given) → ℕ → ℕ → ℕ
first_hole given place zero = place
first_hole given place (suc limit) =
    cond (is_some (given place)) (first_hole given (place + 1) limit) place

-- the piece of a segment of the side, after so many known octets: those that were acknowledged, as
-- all below the bound, are passed over
abbrev pub piece_in : Segment → Option ℕ → ℕ → ℕ → Piece
piece_in s None next bound = record { first = 0; octets = [] }
piece_in s (Some start) next bound = kept_from bound (piece_of s start next)

-- what a segment of the side gives at a place
abbrev pub given_by : Segment → Option ℕ → ℕ → ℕ → ℕ → Option Given
given_by s start next bound place = piece_at (piece_in s start next bound).first
    (piece_in s start next bound).octets (giver_of s) place

unfoldable mutual
  -- the octet that is given at a place of the side's stream, and the packet that gave it first
  pub given_of : Side → List Segment → ℕ → Option Given
  given_of side [] place = None
  given_of side (s ∷ before) place = option_or (given_of side before place)
      (cond (is_side s.sender side)
      (given_by s (start_of side (s ∷ before))
      (first_hole (given_of side before) 0 (count_of side before))
      (acknowledged_of side before) place)
      None)

  -- all below this place of the side's stream is acknowledged by segments of the other side
  pub acknowledged_of : Side → List Segment → ℕ
  acknowledged_of side [] = 0
  acknowledged_of side (s ∷ before) = max (acknowledged_of side before)
      (cond (is_side s.sender side) 0
      (shown_by_acknowledgment (start_of side before)
      (first_hole (given_of side before) 0 (count_of side before)) s.acknowledgment s.rst))

-- the number of octets known: given from the first on, none missing
abbrev pub next_of : Side → List Segment → ℕ
next_of side before = first_hole (given_of side before) 0 (count_of side before)

-- where a segment's octets stand in its side's stream, those passed over left out
abbrev pub placed : Segment → List Segment → Piece
placed s before = piece_in s (start_of s.sender (s ∷ before)) (next_of s.sender before)
    (acknowledged_of s.sender before)

-- the place after a piece, if it has octets
abbrev pub end_in : Piece → ℕ
end_in piece = cond (nat_lt 0 (length piece.octets)) (after piece) 0

-- the place after the last octet given, 0 of none
unfoldable pub end_of : Side → List Segment → ℕ
end_of side [] = 0
end_of side (s ∷ before) = max (end_of side before)
    (cond (is_side s.sender side) (end_in (placed s before)) 0)

-- the place of the side's FIN: of the first, if there are several
unfoldable pub fin_of : Side → List Segment → Option ℕ
fin_of side [] = None
fin_of side (s ∷ before) = option_or (fin_of side before)
    (cond (is_side s.sender side && s.fin) (Some (after (placed s before))) None)

-- the side has sent a RST
abbrev pub has_rst : Side → List Segment → Bool
has_rst side [] = false
has_rst side (s ∷ before) = has_rst side before || (is_side s.sender side && s.rst)
