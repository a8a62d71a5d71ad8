use Rattle.std.proofs.Common.{◌≡◌, ◌++◌, drop, nat_lt}
use Rattle.std.specs.List.{filter}
use Rattle.bgp_check_text.proofs.reached.add_above.Given as goal

-- those so far, and those that are left to add
abbrev pub invariant-loop-other : goal.invariant-loop-other
invariant-loop-other g l =
    l.counts.items ++ filter (λ other. nat_lt l.count other) (drop l.other-index l.others)
    ≡ l.fn.counts.items ++ filter (λ other. nat_lt l.count other) l.others
