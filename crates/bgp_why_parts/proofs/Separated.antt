-- Pieces with a separator between them, one by one.
use Rattle.std.proofs.Common.{◌≡◌, ◌++◌, ◌∷◌, ℕ, List, [], Option, None, Some, refl, append_assoc}
use Rattle.bgp_why_parts.specs.Pieces.{separated, next_separator}

module _ (separator : List ℕ) where
  -- a piece, if there is one, and then the others
  pub piece_by_piece : (before : List ℕ) (piece : Option (List ℕ)) (pieces : List (Option (List ℕ)))
      → separated separator before (piece ∷ pieces) ≡ separated separator before (piece ∷ []) ++ separated separator (next_separator separator before piece) pieces
  piece_by_piece before None pieces = refl
  piece_by_piece before (Some piece) pieces = simp append_assoc

  -- three pieces, where each is written after its separator
  pub three_pieces : (before first second : List ℕ) (a b c : Option (List ℕ)) → first ≡ next_separator separator before a → second ≡ next_separator separator first b
      → separated separator before (a ∷ b ∷ c ∷ []) ≡ separated separator before (a ∷ []) ++ (separated separator first (b ∷ []) ++ separated separator second (c ∷ []))
  three_pieces before first second a b c is1 is2 =
      rw (is2, is1, piece_by_piece before a (b ∷ c ∷ []), piece_by_piece (next_separator separator before a) b (c ∷ [])) refl

  -- four pieces
  pub four_pieces : (before first second third : List ℕ) (a b c d : Option (List ℕ)) → first ≡ next_separator separator before a
      → second ≡ next_separator separator first b → third ≡ next_separator separator second c
      → separated separator before (a ∷ b ∷ c ∷ d ∷ [])
      ≡ separated separator before (a ∷ []) ++ (separated separator first (b ∷ []) ++ (separated separator second (c ∷ []) ++ separated separator third (d ∷ [])))
  four_pieces before first second third a b c d is1 is2 is3 =
      let n : List ℕ → Option (List ℕ) → List ℕ = next_separator separator in
      rw (
        is3,
        is2,
        is1,
        piece_by_piece before a (b ∷ c ∷ d ∷ []),
        piece_by_piece (n before a) b (c ∷ d ∷ []),
        piece_by_piece (n (n before a) b) c (d ∷ []),
      ) refl

  -- five pieces
  pub five_pieces : (before first second third fourth : List ℕ) (a b c d e : Option (List ℕ))
      → first ≡ next_separator separator before a → second ≡ next_separator separator first b → third ≡ next_separator separator second c
      → fourth ≡ next_separator separator third d
      → separated separator before (a ∷ b ∷ c ∷ d ∷ e ∷ [])
      ≡ separated separator before (a ∷ []) ++ (separated separator first (b ∷ []) ++ (separated separator second (c ∷ [])
      ++ (separated separator third (d ∷ []) ++ separated separator fourth (e ∷ []))))
  five_pieces before first second third fourth a b c d e is1 is2 is3 is4 =
      let n : List ℕ → Option (List ℕ) → List ℕ = next_separator separator in
      rw (
        is4,
        is3,
        is2,
        is1,
        piece_by_piece before a (b ∷ c ∷ d ∷ e ∷ []),
        piece_by_piece (n before a) b (c ∷ d ∷ e ∷ []),
        piece_by_piece (n (n before a) b) c (d ∷ e ∷ []),
        piece_by_piece (n (n (n before a) b) c) d (e ∷ []),
      ) refl

  -- seven pieces
  pub seven_pieces : (before first second third fourth fifth sixth : List ℕ) (a b c d e f g : Option (List ℕ))
      → first ≡ next_separator separator before a → second ≡ next_separator separator first b → third ≡ next_separator separator second c
      → fourth ≡ next_separator separator third d → fifth ≡ next_separator separator fourth e → sixth ≡ next_separator separator fifth f
      → separated separator before (a ∷ b ∷ c ∷ d ∷ e ∷ f ∷ g ∷ [])
      ≡ separated separator before (a ∷ []) ++ (separated separator first (b ∷ []) ++ (separated separator second (c ∷ [])
      ++ (separated separator third (d ∷ []) ++ (separated separator fourth (e ∷ []) ++ (separated separator fifth (f ∷ [])
      ++ separated separator sixth (g ∷ []))))))
  seven_pieces before first second third fourth fifth sixth a b c d e f g is1 is2 is3 is4 is5 is6 =
      let n : List ℕ → Option (List ℕ) → List ℕ = next_separator separator in
      rw (
        is6,
        is5,
        is4,
        is3,
        is2,
        is1,
        piece_by_piece before a (b ∷ c ∷ d ∷ e ∷ f ∷ g ∷ []),
        piece_by_piece (n before a) b (c ∷ d ∷ e ∷ f ∷ g ∷ []),
        piece_by_piece (n (n before a) b) c (d ∷ e ∷ f ∷ g ∷ []),
        piece_by_piece (n (n (n before a) b) c) d (e ∷ f ∷ g ∷ []),
        piece_by_piece (n (n (n (n before a) b) c) d) e (f ∷ g ∷ []),
        piece_by_piece (n (n (n (n (n before a) b) c) d) e) f (g ∷ []),
      ) refl
