use Rattle.std.proofs.Common.{rules, ◌∙◌}
use Rattle.bgp_text.specs.RouteText.{route_text}
use Rattle.bgp_text.proofs.Pieces.{Joins, and_nothing}
use Rattle.bgp_text.proofs.Fresh.{IsFresh}
use Rattle.bgp_text.proofs.WholeTexts.{takes_all, takes_beginning, counts}
use Rattle.bgp_text.proofs.routes.write_route.Goals as goal

pub returns-clause-ok : goal.returns-clause-ok
returns-clause-ok g c =
    let law : Joins g.W.Sink = record { joined = g.met.W.Sink.joined } in
    let fresh : IsFresh c.new-lines.result = record { empty = c.new-lines.ensures.empty; calm = c.new-lines.ensures.fresh } in
    let wrote = and_nothing law c.put_route.ensures c.hand_over-handed_over.ensures.writes in
    let same = wrote.same_sink ∙ c.new-lines.ensures.same in
    takes_all c.new-lines.result c.hand_over-handed_over.new.self (route_text c.args.destination c.args.path.now) fresh wrote
    c.hand_over-handed_over.ensures.none c.args.sink.now _ c.new-lines.ensures.now (search rules) c.hand_over-handed_over.result c.hand_over-handed_over.ensures.ok

pub returns-clause-err : goal.returns-clause-err
returns-clause-err g c =
    let law : Joins g.W.Sink = record { joined = g.met.W.Sink.joined } in
    let fresh : IsFresh c.new-lines.result = record { empty = c.new-lines.ensures.empty; calm = c.new-lines.ensures.fresh } in
    let wrote = and_nothing law c.put_route.ensures c.hand_over-handed_over.ensures.writes in
    let same = wrote.same_sink ∙ c.new-lines.ensures.same in
    takes_beginning c.new-lines.result c.hand_over-handed_over.new.self (route_text c.args.destination c.args.path.now) fresh wrote
    c.hand_over-handed_over.ensures.none c.args.sink.now _ c.new-lines.ensures.now (search rules) c.hand_over-handed_over.result

pub returns-clause-failures : goal.returns-clause-failures
returns-clause-failures g c =
    let law : Joins g.W.Sink = record { joined = g.met.W.Sink.joined } in
    let fresh : IsFresh c.new-lines.result = record { empty = c.new-lines.ensures.empty; calm = c.new-lines.ensures.fresh } in
    let wrote = and_nothing law c.put_route.ensures c.hand_over-handed_over.ensures.writes in
    let same = wrote.same_sink ∙ c.new-lines.ensures.same in
    counts c.new-lines.result c.hand_over-handed_over.new.self (route_text c.args.destination c.args.path.now) fresh wrote
    c.hand_over-handed_over.ensures.none c.args.sink.now _ c.new-lines.ensures.now (search rules) c.hand_over-handed_over.result c.hand_over-handed_over.ensures.ok c.hand_over-handed_over.ensures.err
