-- Pieces behind other pieces.
use Rattle.std.proofs.Common.{◌≡◌, ◌∙◌, ℕ, List, [], ◌∷◌, ◌++◌, length, length-append, arith, refl, ap, Option}
use Rattle.std.proofs.lemmas.Grind.{flat_map-append}
use Rattle.bgp_prefix.specs.Shown.{ShownRecord}
use Rattle.bgp_prefix.specs.declared.session.Session.{Session}
use Rattle.mrt.specs.Capture.{Piece, Shown, octets_of, ArePieces, last_after, last_of, joined, shown_by, records_of, shown_of}

pub joined_chain : (first second : List Piece) → joined (first ++ second) ≡ joined first ++ joined second
joined_chain first second = flat_map-append octets_of first second

pub records_chain : (first second : List Piece) → records_of (first ++ second) ≡ records_of first ++ records_of second
records_chain first second = flat_map-append shown_by first second

pub last_chain : (last : Option ℕ) (first second : List Piece) → last_of last (first ++ second) ≡ last_of (last_of last first) second
last_chain last [] second = refl
last_chain last (piece ∷ first) second = last_chain (last_after last piece) first second

pub pieces_chain : (session : Session) (last : Option ℕ) (first second : List Piece) → ArePieces session last first
    → ArePieces session (last_of last first) second → ArePieces session last (first ++ second)
pieces_chain session last [] second here there = there
pieces_chain session last (piece ∷ first) second here there = (here.0, pieces_chain session (last_after last piece) first second here.1 there)

-- skipped records and one of the session show that one
pub one_record : (skipped : List Piece) (octets : List ℕ) → records_of skipped ≡ [] → records_of (skipped ++ Shown octets ∷ []) ≡ shown_of octets ∷ []
one_record skipped octets only =
    records_chain skipped (Shown octets ∷ []) ∙ ap (λ (o : List ShownRecord). o ++ (shown_of octets ∷ [])) only

-- the last of the pieces is a piece behind the others
pub last_piece : (session : Session) (last : Option ℕ) (first : List Piece) (piece : Piece) → ArePieces session last (first ++ piece ∷ [])
    → ArePieces session (last_of last first) (piece ∷ [])
last_piece session last [] piece are = are
last_piece session last (one ∷ first) piece are = last_piece session (last_after last one) first piece are.1

-- pieces without octets are none
pub no_pieces_there : (session : Session) (last : Option ℕ) (pieces : List Piece) → ArePieces session last pieces → length (joined pieces) ≡ 0 → pieces ≡ []
no_pieces_there session last [] are none = refl
no_pieces_there session last (piece ∷ pieces) are none =
    let long = are.0.whole.header in
    let many = length-append (octets_of piece) (joined pieces) in absurd (omega (arith, long, many, none))
