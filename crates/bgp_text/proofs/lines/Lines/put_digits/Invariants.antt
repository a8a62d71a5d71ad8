use Rattle.std.proofs.Common.{◌≡◌, ◌++◌, List, ℕ, length}
use Rattle.hex.specs.Hex.{encode_lower}
use Rattle.bgp_text.specs.Lines.{Writes}
use Rattle.bgp_text.proofs.lines.Lines.put_digits.Given as goal

-- the digits of the octets in front of the rest are written
abbrev pub invariant-loop-rest : goal.invariant-loop-rest
invariant-loop-rest g l =
    (front : List ℕ) × (l.octets ≡ front ++ l.rest) × Writes l.fn.self l.self (encode_lower front)

abbrev pub decreases-loop-rest : goal.decreases-loop-rest
decreases-loop-rest g l = length l.rest
