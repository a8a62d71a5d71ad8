use Rattle.std.proofs.Common.{◌≤◌, List, ℕ, length, refl, subst}
use Rattle.bgp_open.specs.declared.route_form.RouteForm.{RouteForm}
use Rattle.bgp_machine.specs.Heard.{received_limit}
use Rattle.bgp_why.specs.Asked.{Asks}
use Rattle.bgp_why.specs.Message.{IsNamed}
use Rattle.bgp_explain.specs.Why.{AreAskedBy, IsCaptured}
use Rattle.bgp_explain.proofs.why.received_of.Goals as goal

pub returns-in-Some : goal.returns-in-Some
returns-in-Some g c =
    let config = c.args.config.now in
    let reason = c.args.reason.now in
    let octets = reason.last_message.items in
    let asked = c.of.result in
    let limit = received_limit config in
    let called = subst (λ (o : List ℕ). IsCaptured config o → IsNamed c.received_form.result limit o asked.name) c.as_slice.ensures.value c.of.ensures.name in
    let are : AreAskedBy config reason.link reason.told octets asked = record {
      state = c.of.ensures.state;
      name = subst (λ (f : RouteForm). IsCaptured config octets → IsNamed f limit octets asked.name) c.received_form.ensures called;
      message = subst (λ (o : List ℕ). 19 ≤ length o → Asks config o asked.message) c.as_slice.ensures.value c.of.ensures.asks;
    } in
    rw c.in-Some.is (refl, are)
