use Rattle.std.proofs.Common.{subst}
use Rattle.bgp_text.proofs.Pieces.{Joins, and_then}
use Rattle.mrt.specs.Reader.{shown_of}
use Rattle.bgp_open.specs.declared.route_form.RouteForm.{RouteForm}
use Rattle.bgp_why.specs.Deed.{IsDeed, peer_of, record_line}
use Rattle.bgp_why.proofs.deed.put_record_line.Goals as goal

pub returns : goal.returns
unfolding record_line
returns g c =
    let law : Joins g.W.Sink = record { joined = g.met.W.Sink.joined } in
    let (deed, is, wrote) = c.put_deed.ensures in (
      deed,
      subst (λ (f : RouteForm). IsDeed c.args.session.now (peer_of c.args.session.now) f (shown_of c.args.shown.now) deed) c.form_on.ensures is,
      and_then law c.put.ensures (and_then law c.put_record.ensures (and_then law c.put_address.ensures (and_then law c.put-2.ensures (and_then law wrote (and_then law c.put_cause.ensures c.put-3.ensures))))),
    )
