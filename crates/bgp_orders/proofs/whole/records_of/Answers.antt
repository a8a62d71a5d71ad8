use Rattle.std.proofs.Common.{◌∙◌, ap, map}
use Rattle.std.proofs.lemmas.List.{take_all}
use Rattle.mrt.specs.Reader.{shown_of}
use Rattle.bgp_recording.specs.declared.entry.Entry.{Entry}
use Rattle.bgp_recording.proofs.Alone.{all_shown}
use Rattle.bgp_orders.proofs.whole.records_of.Goals as goal

pub returns : goal.returns
returns g c =
    ap (map shown_of) (c.loop-entry.invariant ∙ ap (map (λ (e : Entry). e.record)) (take_all c.loop-entry.entry-index c.args.entries.now c.loop-entry-test.false))
    ∙ all_shown c.args.entries.now
