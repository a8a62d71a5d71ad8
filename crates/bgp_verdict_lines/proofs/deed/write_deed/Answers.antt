use Rattle.std.proofs.Common.{rules, subst}
use Rattle.std.proofs.lemmas.Result.{on_ok_weaker}
use Rattle.bgp_text.proofs.Fresh.{IsFresh}
use Rattle.bgp_text.proofs.Pieces.{Joins, and_nothing, and_then}
use Rattle.mrt.specs.Reader.{shown_of}
use Rattle.bgp_why.specs.Deed.{IsDeed}
use Rattle.bgp_why.specs.declared.endpoint.Endpoint.{Endpoint}
use Rattle.bgp_verdict_lines.proofs.Printed.{took_all}
use Rattle.bgp_verdict_lines.proofs.deed.write_deed.Goals as goal

pub returns : goal.returns
returns g c =
    let law : Joins g.W.Sink = record { joined = g.met.W.Sink.joined } in
    let fresh : IsFresh c.new-lines.result = record { empty = c.new-lines.ensures.empty; calm = c.new-lines.ensures.fresh } in
    let (deed, is, wrote) = c.put_deed.ensures in
    let all = and_nothing law (and_then law wrote c.put_cause.ensures) c.hand_over-handed_over.ensures.writes in (
      deed,
      subst (λ (peer : Endpoint). IsDeed c.args.session.now peer c.args.form (shown_of c.args.shown.now) deed) c.peer_of.ensures is,
      on_ok_weaker c.hand_over-handed_over.result
          (λ calm. took_all c.new-lines.result c.hand_over-handed_over.new.self c.args.sink.now _ _ fresh c.new-lines.ensures.now (search rules) all c.hand_over-handed_over.ensures.none calm)
          c.hand_over-handed_over.ensures.ok,
    )
