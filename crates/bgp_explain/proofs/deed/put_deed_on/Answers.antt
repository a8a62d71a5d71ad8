use Rattle.std.proofs.Common.{subst}
use Rattle.bgp_open.specs.declared.route_form.RouteForm.{RouteForm}
use Rattle.mrt.specs.Reader.{shown_of}
use Rattle.bgp_why.specs.Deed.{IsDeed}
use Rattle.bgp_explain.proofs.deed.put_deed_on.Goals as goal

pub returns : goal.returns
returns g c =
    let (deed, is, wrote) = c.put_deed.ensures in
    (deed, subst (λ (f : RouteForm). IsDeed c.args.session.now c.args.peer.now f (shown_of c.args.shown.now) deed) c.form_on.ensures is, wrote)
