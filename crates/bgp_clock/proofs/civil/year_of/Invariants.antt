use Rattle.std.proofs.Common.{◌≡◌, ◌≤◌, ◌-◌}
use Rattle.bgp_clock.specs.Civil.{year_from, year_of}
use Rattle.bgp_clock.proofs.civil.year_of.Given as goal

-- the walk goes on from here
abbrev pub invariant-loop-year : goal.invariant-loop-year
invariant-loop-year l =
    (year_from (2106 - l.year) l.year l.rest ≡ year_of l.fn.days) × (l.rest ≤ l.fn.days)
