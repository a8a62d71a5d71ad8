-- A stream splits into frames and a rest in one way.
use Rattle.std.proofs.Common.{◌≡◌, ◌⊎◌, ◌∙◌, ◌++◌, ◌∷◌, [], ℕ, List, length, take, drop, refl, sym, ap, inl, inr, append_assoc}
use Rattle.std.proofs.Math.Seq.{take-append_seam, drop-append_seam}
use Rattle.std.proofs.lemmas.List.Elements.{All-head, All-tail}
use Rattle.bgp_wire.specs.declared.header.Limit.{Limit}
use Rattle.bgp_wire.specs.Header.{length_of}
use Rattle.bgp_wire.specs.Framing.{IsFrame, IsShort, IsFaulty, IsFraming, joined}
use Rattle.bgp_wire.proofs.Front.{header_of-frame, faulty_no_frame, short_no_frame}

-- no frame stands where the rest begins
rest_no_frame : (limit : Limit) (rest frame more : List ℕ) → (IsShort limit rest ⊎ IsFaulty limit rest)
    → IsFrame limit frame → rest ≡ frame ++ more → ⊥
rest_no_frame limit rest frame more last whole is = elim last [
  | inl short ↦ short_no_frame limit rest frame more short whole is
  | inr faulty ↦ faulty_no_frame limit rest frame more faulty whole is
]

-- two frames at the front of one stream are one, and so is what is behind them
one_front : (limit : Limit) (octets frame other rest more : List ℕ) → IsFrame limit frame → IsFrame limit other
    → octets ≡ frame ++ rest → octets ≡ other ++ more → (frame ≡ other) × (rest ≡ more)
one_front limit octets frame other rest more whole whole' is is' =
    let headers = sym (header_of-frame limit octets frame rest whole is) ∙ header_of-frame limit octets other more whole' is' in
    let count : length frame ≡ length other = whole.whole ∙ ap length_of headers ∙ sym whole'.whole in
    let both : frame ++ rest ≡ other ++ more = sym is ∙ is' in (
      sym (take-append_seam frame rest) ∙ ap (take (length frame)) both ∙ ap (λ (n : ℕ). take n (other ++ more)) count ∙ take-append_seam other more,
      sym (drop-append_seam frame rest) ∙ ap (drop (length frame)) both ∙ ap (λ (n : ℕ). drop n (other ++ more)) count ∙ drop-append_seam other more,
    )

-- the same of whole framings
pub one_framing : (limit : Limit) (stream : List ℕ) (frames others : List (List ℕ)) (rest other : List ℕ)
    → IsFraming limit stream frames rest → IsFraming limit stream others other → (frames ≡ others) × (rest ≡ other)
one_framing limit stream [] [] rest other one two = (refl, sym one.whole ∙ two.whole)
one_framing limit stream [] (h ∷ hs) rest other one two =
    absurd (rest_no_frame limit rest h (joined hs ++ other) one.last (All-head (IsFrame limit) h hs two.each)
    (sym one.whole ∙ two.whole ∙ append_assoc h (joined hs) other))
one_framing limit stream (f ∷ fs) [] rest other one two =
    absurd (rest_no_frame limit other f (joined fs ++ rest) two.last (All-head (IsFrame limit) f fs one.each)
    (sym two.whole ∙ one.whole ∙ append_assoc f (joined fs) rest))
one_framing limit stream (f ∷ fs) (h ∷ hs) rest other one two =
    let front = one_front limit stream f h (joined fs ++ rest) (joined hs ++ other)
    (All-head (IsFrame limit) f fs one.each) (All-head (IsFrame limit) h hs two.each)
    (one.whole ∙ append_assoc f (joined fs) rest) (two.whole ∙ append_assoc h (joined hs) other)
    in
    let behind = one_framing limit (joined fs ++ rest) fs hs rest other
    (record { whole = refl; each = All-tail (IsFrame limit) f fs one.each; last = one.last })
    (record { whole = front.1; each = All-tail (IsFrame limit) h hs two.each; last = two.last })
    in
    (ap (λ (x : List ℕ). x ∷ fs) front.0 ∙ ap (λ (xs : List (List ℕ)). h ∷ xs) behind.0, behind.1)
