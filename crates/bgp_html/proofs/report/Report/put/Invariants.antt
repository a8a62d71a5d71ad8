use Rattle.std.proofs.Common.{◌≡◌, ◌++◌, List, ℕ, length}
use Rattle.bgp_html.specs.Taking.{Puts}
use Rattle.bgp_html.proofs.report.Report.put.Given as goal

-- what is taken are the octets in front of the rest
abbrev pub invariant-loop-rest : goal.invariant-loop-rest
invariant-loop-rest g l =
    (front : List ℕ) × (l.octets ≡ front ++ l.rest)
    × Puts l.fn.self.lines l.self.lines l.fn.self.element l.self.element l.fn.self.front.items l.self.front.items l.fn.self.notes l.self.notes front

abbrev pub decreases-loop-rest : goal.decreases-loop-rest
decreases-loop-rest g l = length l.rest
