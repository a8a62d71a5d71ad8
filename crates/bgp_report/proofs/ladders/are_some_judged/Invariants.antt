use Rattle.std.proofs.Common.{◌≡◌, drop}
use Rattle.std.specs.List.{list_any}
use Rattle.bgp_report.specs.Ladders.{some_judged}
use Rattle.bgp_report.proofs.ladders.are_some_judged.Given as goal

-- no end of the connections so far is
abbrev pub invariant-loop-both : goal.invariant-loop-both
invariant-loop-both l = list_any some_judged l.marks ≡ list_any some_judged (drop l.both-index l.marks)
