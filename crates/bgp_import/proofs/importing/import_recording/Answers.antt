use Rattle.std.proofs.Common.{◌∙◌, Bool, ap, arith, length, reverse}
use Rattle.bgp_import.specs.Gathers.{cut_short_by}
use Rattle.bgp_import.proofs.AllImported.{imports_all, source_calm}
use Rattle.bgp_import.proofs.importing.import_recording.Goals as goal

pub import_gathered-requires-clause-holds : goal.import_gathered-requires-clause-holds
import_gathered-requires-clause-holds g c =
    let i = c.in-Ok.ensures.gathers in record { packets = i.packets; segments = i.segments; taken = i.all.taken; holds = i.holds }

pub returns-in-Ok-clause-imports : goal.returns-in-Ok-clause-imports
returns-in-Ok-clause-imports g c =
    let i = c.in-Ok.ensures.gathers in
    let is_cut = c.cut_short.ensures (reverse i.segments) (length i.packets) i.holds ∙ ap (λ (b : Bool). cut_short_by b (length i.packets)) i.is_cut in
    imports_all g.R.Source.gives g.R.Source.has_ended g.W.Sink.takes c.args.import.now c.args.source.now c.gather.new.source c.args.sink.now c.import_gathered.new.sink i.octets i.packets i.segments i.cut i.all
    c.cut_short.result is_cut c.import_gathered.result (c.import_gathered.ensures.imports i.packets i.segments i.all.taken i.holds)

pub returns-in-Ok-clause-source_failures : goal.returns-in-Ok-clause-source_failures
returns-in-Ok-clause-source_failures g c =
    let i = c.in-Ok.ensures.gathers in
    let calm = source_calm g.W.Sink.takes c.args.import.now i.packets i.segments c.args.sink.now c.import_gathered.new.sink c.import_gathered.result
    (c.import_gathered.ensures.imports i.packets i.segments i.all.taken i.holds) in
    let failures = rw c.in-Ok.is at c.gather.ensures.failures in
    omega (arith, failures, calm)
