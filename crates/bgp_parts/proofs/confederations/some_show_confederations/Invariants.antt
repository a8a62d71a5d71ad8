use Rattle.std.proofs.Common.{◌↔◌, drop, map}
use Rattle.mrt.specs.Reader.{shown_of}
use Rattle.bgp_parts.specs.Confederations.{SomeShowConfederations}
use Rattle.bgp_parts.proofs.confederations.some_show_confederations.Given as goal

-- no record so far does
abbrev pub invariant-loop-record : goal.invariant-loop-record
invariant-loop-record l =
    SomeShowConfederations (map shown_of (drop l.record-index l.records)) ↔ SomeShowConfederations (map shown_of l.records)
