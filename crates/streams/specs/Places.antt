-- Places in a stream: 0 is the first octet after the SYN. Sequence numbers are places modulo 2 to
-- the 32nd (RFC 9293, 3.4), so a number's place is sought near the octets that are known.
use Rattle.std.specs.Prelude.{ℕ, ◌+◌, ◌-◌, ◌%◌, List, drop, length, cond, min, max}
use Rattle.std.specs.Prelude.{Option, Some, None, Bool, true, false}
use Rattle.streams.specs.Passed.{Segment}

-- how many sequence numbers there are, and half of them
abbrev pub range : ℕ
range = 4294967296

abbrev pub half : ℕ
half = 2147483648

-- the sequence number's distance from the first octet after the SYN, up to multiples of the range
abbrev pub offset_of : ℕ → ℕ → ℕ
offset_of start sequence = sequence + (range - 1) - start

-- the place at this distance, up to multiples of the range, that lies from `next` less half the
-- range on and below `next` and half the range. It is raised by half, since it may be below 0
unfoldable pub raised_place : ℕ → ℕ → ℕ
raised_place next offset = next + (offset + half + (range - next % range)) % range

-- octets, and the place of the first. Octets below place 0 are none of the stream
pub record Piece : Type 0 where
  pub first : ℕ
  pub octets : List ℕ

abbrev pub lowered : ℕ → List ℕ → Piece
lowered raised octets = record { first = raised - half; octets = drop (half - raised) octets }

-- where the segment's octets stand, after so many known ones: the first has the next number where
-- the segment has a SYN
abbrev pub piece_of : Segment → ℕ → ℕ → Piece
piece_of s start next =
    lowered (raised_place next (offset_of start s.sequence + cond s.syn 1 0)) s.octets

-- the place after a piece: that of its FIN
abbrev pub after : Piece → ℕ
after piece = piece.first + length piece.octets

-- the first place that isn't acknowledged
abbrev pub acknowledged : ℕ → ℕ → ℕ → ℕ
acknowledged start next number = raised_place next (offset_of start number) - half

-- what stands below this place was sent, as an acknowledgment shows
abbrev pub shown_by_acknowledgment : Option ℕ → ℕ → Option ℕ → Bool → ℕ
shown_by_acknowledgment start next number true = 0
shown_by_acknowledgment None next number false = 0
shown_by_acknowledgment (Some start) next None false = 0
shown_by_acknowledgment (Some start) next (Some number) false = acknowledged start next number

-- octets below the bound are passed over; those that are left keep their places, and so does what
-- follows
abbrev pub kept_from : ℕ → Piece → Piece
kept_from bound piece = record {
  first = max piece.first (min bound (after piece));
  octets = drop (bound - piece.first) piece.octets;
}
