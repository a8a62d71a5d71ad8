use Rattle.std.proofs.Common.{◌∙◌, ◌+◌, List, length, map, ap, sym, subst}
use Rattle.std.proofs.lemmas.List.{map-append}
use Rattle.mrt_sessions.specs.File.{Located}
use Rattle.mrt_sessions.specs.Located.{located}
use Rattle.mrt_sessions.proofs.Parts.{SoFar, other_more, record_more, stopped}
use Rattle.mrt_sessions.proofs.file.records_in.Goals as goal

pub returns-in-Stop-clause-plain : goal.returns-in-Stop-clause-plain
returns-in-Stop-clause-plain g c =
    stopped c.args.octets.now c.loop-refusal.rest.now (map located c.loop-refusal.records.items) c.loop-refusal.offset c.loop-refusal.is_plain c.in-Stop.refusal c.loop-refusal.invariant
    c.in-Stop.ensures

pub loop-refusal-preserved-in-Other : goal.loop-refusal-preserved-in-Other
loop-refusal-preserved-in-Other g c =
    other_more c.args.octets.now c.loop-refusal.rest.now c.in-Other.behind.now c.in-Other.record.now (map located c.loop-refusal.records.items) c.loop-refusal.offset c.loop-refusal.is_plain
    c.loop-refusal.invariant c.in-Other.ensures.1 _ c.stays_plain-is_plain.ensures c.in-Other.ensures.0

pub loop-refusal-preserved : goal.loop-refusal-preserved
loop-refusal-preserved g c =
    let items = ap (map located) c.in_ok-push-in-Named.ensures.items ∙ map-append located c.loop-refusal.records.items _ in
    subst (λ (ls : List Located). SoFar c.args.octets.now c.in-Named.behind.now ls (c.loop-refusal.offset + length c.in-Named.record.now) c.stays_plain-is_plain-in-Named.result) (sym items)
    (record_more c.args.octets.now c.loop-refusal.rest.now c.in-Named.behind.now c.in-Named.record.now (map located c.loop-refusal.records.items) c.loop-refusal.offset c.loop-refusal.is_plain
    c.loop-refusal.invariant c.in-Named.ensures.1 _ c.stays_plain-is_plain-in-Named.ensures c.in-Named.ensures.0)
