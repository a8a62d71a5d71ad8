-- What is held of a direction of a connection.
use Rattle.std.specs.Prelude.{ℕ, List, [], ◌∷◌, Option, Some, None, cond, nat_lt, length}
use Rattle.streams.specs.declared.placing.Piece.{Piece as HeldPiece}
use Rattle.std.specs.Prelude.{Bool, ◌≡◌, ◌≤◌, ◌+◌, ◌||◌, max}
use Rattle.std.specs.Option.{option_or, option_map, is_none}
use Rattle.streams.specs.declared.direction.Shown.{Shown}
use Rattle.streams.specs.declared.direction.Direction.{Direction}
use Rattle.streams.specs.declared.gathered.Given.{Given}
use Rattle.streams.specs.declared.passed.Side.{Side}
use Rattle.streams.specs.Given.{given_at, piece_at, size, first_conflict, first_new}
use Rattle.streams.specs.Islands.{IsSound}
use Rattle.streams.specs.History.{given_of, acknowledged_of, count_of, end_of, fin_of}
use Rattle.streams.specs.History.{has_rst, end_in}
use Rattle.streams.specs.Sent.{first_shown, shown_by_piece, is_fin}
use Rattle.streams.specs.Sent.{acknowledges, first_acknowledged}
use Rattle.streams.specs.declared.fault.Fault.{Fault}
use Rattle.streams.specs.declared.fault.Fault.TheVariants as faults
use Rattle.streams.specs.Passed.{Segment, giver_of}
use Rattle.streams.specs.Places.{Piece, after}
use Rattle.streams.specs.Refusals.{conflict_at, other_fin, early_fin}

abbrev pub piece_value : HeldPiece → Piece
piece_value piece = record { first = piece.first; octets = piece.octets.now }

-- the first packet that showed that the octet at the place was sent
abbrev pub first_above : List Shown → ℕ → Option ℕ
first_above [] place = None
first_above (shown ∷ more) place =
    cond (nat_lt place shown.below) (Some shown.packet) (first_above more place)

-- the refusal of a FIN, where one stands at the place
abbrev pub fin_faults : Segment → ℕ → Option ℕ → ℕ → Option Fault
fin_faults s place fin end = conflict_at s
    (cond s.fin (option_or (other_fin place fin) (early_fin place end)) None)

-- the refusal of a RST before, where one was sent
abbrev pub rst_faults : Segment → Bool → Option ℕ → Option Fault
rst_faults s rst place =
    cond rst (option_map (λ p. faults.AfterReset s.packet s.sender p) place) None

-- the first refusal of a piece, after what its direction was given
abbrev pub piece_faults : Segment → Piece → (ℕ → Option Given) → Option ℕ → ℕ → Bool
    → Option Fault
piece_faults s piece given fin end rst =
    option_or (conflict_at s (first_conflict given fin piece.first piece.octets))
    (option_or (fin_faults s (after piece) fin (max end (end_in piece)))
    (rst_faults s rst (first_new given piece.first piece.octets)))

-- what stands below this place was sent, as the segment and its piece show
abbrev pub shown_by_own : Segment → Piece → ℕ
shown_by_own s piece =
    cond (nat_lt 0 (length piece.octets) || s.fin) (shown_by_piece piece s.fin) 0

-- a direction has taken a segment of its side
pub record Adds {Z : Type 0} (s : Segment) (piece : Piece) (old new : Direction Z) : Type 0 where
  pub sound : IsSound new.gathered
  pub given : (place : ℕ) → given_at new.gathered place ≡ option_or (given_at old.gathered place)
      (piece_at piece.first piece.octets (giver_of s) place)
  pub size : size new.gathered ≤ size old.gathered + length s.octets
  pub end : new.end ≡ max old.end (end_in piece)
  pub fin : new.fin ≡ option_or old.fin (cond s.fin (Some (after piece)) None)
  pub rst : new.has_rst ≡ old.has_rst || s.rst
  pub shown : (place : ℕ) → first_above new.shown.items place
      ≡ option_or (first_above old.shown.items place)
      (cond (nat_lt place (shown_by_own s piece)) (Some s.packet) None)
  pub acknowledged : new.acknowledged ≡ old.acknowledged
  pub acknowledged_by : new.acknowledged_by ≡ old.acknowledged_by

-- a direction has taken what a segment of the other side acknowledges
pub record Acknowledges {Z : Type 0} (s : Segment) (below : ℕ) (old new : Direction Z) : Type 0
  where
    pub gathered : new.gathered ≡ old.gathered
    pub end : new.end ≡ old.end
    pub fin : new.fin ≡ old.fin
    pub rst : new.has_rst ≡ old.has_rst
    pub shown : (place : ℕ) → first_above new.shown.items place
        ≡ option_or (first_above old.shown.items place)
        (cond (nat_lt place below) (Some s.packet) None)
    pub acknowledged : new.acknowledged ≡ max old.acknowledged below
    pub acknowledged_by : new.acknowledged_by
        ≡ option_or old.acknowledged_by (cond (acknowledges s) (Some s.packet) None)

-- a direction holds what the segments of a connection tell of it
pub record Holds {Z : Type 0} (side : Side) (segments : List Segment) (direction : Direction Z)
    : Type 0 where
  pub sound : IsSound direction.gathered
  pub given : (place : ℕ) → given_at direction.gathered place ≡ given_of side segments place
  pub size : size direction.gathered ≤ count_of side segments
  pub end : direction.end ≡ end_of side segments
  pub fin : direction.fin ≡ fin_of side segments
  pub rst : direction.has_rst ≡ has_rst side segments
  pub shown : (place : ℕ) → first_above direction.shown.items place
      ≡ first_shown side segments place
  pub acknowledged : direction.acknowledged ≡ acknowledged_of side segments
  pub acknowledged_by : direction.acknowledged_by ≡ first_acknowledged side segments

-- the first packet that acknowledges what a side sent without a SYN
abbrev pub half_in : {Z : Type 0} → Option ℕ → Direction Z → Option ℕ
half_in start d = cond (is_none start) d.acknowledged_by None

-- the first packet that shows an octet which is missing
abbrev pub missing_in : {Z : Type 0} → Direction Z → Option ℕ
missing_in d = cond (is_fin d.fin (length d.gathered.known.octets.items))
    (first_above d.shown.items (length d.gathered.known.octets.items + 1))
    (first_above d.shown.items (length d.gathered.known.octets.items))
