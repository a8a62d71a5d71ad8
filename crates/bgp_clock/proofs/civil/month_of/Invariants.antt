use Rattle.std.proofs.Common.{◌≡◌, ◌≤◌, ◌-◌}
use Rattle.bgp_clock.specs.Civil.{month_from, month_of}
use Rattle.bgp_clock.proofs.civil.month_of.Given as goal

-- the walk goes on from here
abbrev pub invariant-loop-month : goal.invariant-loop-month
invariant-loop-month l =
    (month_from (12 - l.month) l.year l.month l.rest ≡ month_of l.fn.year l.fn.days) × (l.rest ≤ l.fn.days)
