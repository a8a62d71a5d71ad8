use Rattle.std.proofs.Common.{◌≡◌, map, take}
use Rattle.mrt.specs.Reader.{shown_of}
use Rattle.bgp_prefix.specs.Shown.{second_of}
use Rattle.bgp_recording.specs.declared.entry.Entry.{Entry}
use Rattle.bgp_report.specs.Stretches.{numbered_by}
use Rattle.bgp_report.proofs.stretch.entries_of.Given as goal

-- the entries of the records so far
abbrev pub invariant-loop-place : goal.invariant-loop-place
invariant-loop-place g l =
    (map (λ (e : Entry). shown_of e.record) l.entries.items ≡ take l.place (map shown_of l.records))
    × (map numbered_by l.entries.items ≡ take l.place l.numbers)
    × (map (λ (e : Entry). e.second) l.entries.items ≡ take l.place (map second_of (map shown_of l.records)))
