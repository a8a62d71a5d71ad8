-- A reader's buffer, of which a slice was lent and is written back.
use Rattle.std.proofs.Common.{◌≡◌, ℕ, ◌≤◌, List, ◌++◌, length, take, drop, inl, arith}
use Rattle.std.proofs.lemmas.Grind.{common_steps}
use Rattle.packets.specs.Reader.{ReaderState, HasRoom}

length_kept : (len : ℕ) (front items : List ℕ) → length front ≡ 327680 → length items ≡ 327680 → len ≡ length items
    → length (take len (front ++ drop (length front) items)) ≡ 327680
length_kept len front items whole all counted = grind (arith, common_steps)

pub room_kept : (len : ℕ) (front items : List ℕ) (state : ReaderState) → length front ≡ 327680 → length items ≡ 327680 → len ≡ length items
    → (length (take len (front ++ drop (length front) items)) ≤ 327680) × HasRoom (length (take len (front ++ drop (length front) items))) state
room_kept len front items state whole all counted =
    let kept = length_kept len front items whole all counted in
    (omega arith, inl kept)
