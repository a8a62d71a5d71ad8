use Rattle.std.proofs.Common.{List, subst, sym}
use Rattle.bgp_recording.specs.Captured.{records_of}
use Rattle.bgp_orders.specs.declared.course.Step.{Step}
use Rattle.bgp_orders.specs.Explained.{ShowARun}
use Rattle.bgp_orders.specs.Tracks.{LeadsToLast, NoneIsFound}
use Rattle.bgp_orders.proofs.Along.{none_is, not_none, some_so}
use Rattle.bgp_orders.proofs.Counts.{some_is}
use Rattle.bgp_orders.proofs.Rows.{if_some}
use Rattle.bgp_orders.proofs.Steps.{if_ok}
use Rattle.bgp_orders.proofs.whole.entries_of_whole_way.Goals as goal

pub returns-in-Some-clause-ends : goal.returns-in-Some-clause-ends
returns-in-Some-clause-ends g c =
    if_ok c.entries_along.result _ _
    (λ found h. if_some found _ _
    (λ entries of told. λ e. c.runs_of_entries_are_whole.ensures.runs c.args.config.now c.args.within c.args.exchange.now entries.items e (of told)) h)
    c.entries_along.ensures.way

pub returns-in-Some-clause-run : goal.returns-in-Some-clause-run
returns-in-Some-clause-run g c =
    let config = c.args.config.now in
    let exchange = c.args.exchange.now in
    let track = c.in-Some.track in
    let to = some_is c.in_ok-track.field-0 track (λ it. LeadsToLast config c.args.within exchange it.start it.steps.items) c.in-Some.is c.in_ok-track.ensures.some in
    if_ok c.entries_along.result _ _ (λ found h. some_so found (λ entries. ShowARun config (records_of entries.items)) h)
    (c.entries_along.ensures.run (subst (λ (v : List Step). LeadsToLast config c.args.within exchange track.start v) (sym c.as_slice.ensures.value) to))

pub returns-in-Some-clause-none : goal.returns-in-Some-clause-none
returns-in-Some-clause-none g c =
    let config = c.args.config.now in
    let exchange = c.args.exchange.now in
    let track = c.in-Some.track in
    let to = some_is c.in_ok-track.field-0 track (λ it. LeadsToLast config c.args.within exchange it.start it.steps.items) c.in-Some.is c.in_ok-track.ensures.some in
    if_ok c.entries_along.result _ _ (λ found h. not_none found (λ entries. ShowARun config (records_of entries.items)) (NoneIsFound config c.args.within exchange) h)
    (c.entries_along.ensures.run (subst (λ (v : List Step). LeadsToLast config c.args.within exchange track.start v) (sym c.as_slice.ensures.value) to))

pub returns-in-None-clause-none : goal.returns-in-None-clause-none
returns-in-None-clause-none g c =
    none_is c.in_ok-track.field-0 (NoneIsFound c.args.config.now c.args.within c.args.exchange.now) c.in-None.is c.in_ok-track.ensures.none
