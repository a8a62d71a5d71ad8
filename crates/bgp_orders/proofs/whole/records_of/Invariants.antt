use Rattle.std.proofs.Common.{◌≡◌, map, take}
use Rattle.bgp_recording.specs.declared.entry.Entry.{Entry}
use Rattle.bgp_orders.proofs.whole.records_of.Given as goal

-- the records of the entries so far
abbrev pub invariant-loop-entry : goal.invariant-loop-entry
invariant-loop-entry g l = l.records.items ≡ map (λ (e : Entry). e.record) (take l.entry-index l.entries)
