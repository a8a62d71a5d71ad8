-- What was read by a reader of captures, and what the reader knows of it.
use Rattle.std.specs.Prelude.{◌≡◌, ◌++◌, ℕ, List, [], None}
use Rattle.bgp_prefix.specs.declared.session.Session.{Session}
use Rattle.mrt.specs.Capture.{Piece, ArePieces, joined, last_of, others_of}
use Rattle.mrt.specs.Skipped.{skipped_in}
use Rattle.mrt.specs.Reader.{ReaderState}

-- The reader tells the second of the session's last record, if there was one, the first nine
-- different pairs of addresses for which a record was skipped, and how many were skipped.
abbrev pub Knows : ReaderState → List Piece → Type 0
Knows reader pieces =
    (reader.last ≡ last_of None pieces) × (reader.others ≡ others_of [] pieces)
    × (reader.skipped ≡ skipped_in pieces)

-- What a source gave from one state to another is pieces of a capture, which the reader knows then,
-- and a rest. And something holds of a source that gave just those octets.
pub record ReadBy {S : Type 0} (gives : S → S → List ℕ → Type 0) (session : Session) (old new : S)
    (reader' : ReaderState) (Holds : (S → S → List ℕ → Type 0) → Type 0) : Type 0 where
  pub pieces : List Piece
  pub rest : List ℕ
  pub knows : Knows reader' pieces
  pub gave : gives old new (joined pieces ++ rest)
  pub each : ArePieces session None pieces
  pub holds : Holds (λ from to octets. octets ≡ joined pieces ++ rest)
