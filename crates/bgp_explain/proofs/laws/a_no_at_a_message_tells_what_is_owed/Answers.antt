use Rattle.std.proofs.Common.{List, Option, subst, sym}
use Rattle.bgp_prefix.specs.Shown.{ShownRecord, Received}
use Rattle.bgp_open.specs.declared.link.Link.{Link}
use Rattle.bgp_machine.specs.Run.{Begins}
use Rattle.bgp_reason.specs.Hearable.{CanBeHeard}
use Rattle.bgp_explain.proofs.laws.a_no_at_a_message_tells_what_is_owed.Goals as goal

pub returns : goal.returns
returns g c = λ long records count second possible small verdict this same are told.
    let config = c.args.config.now in
    let octets = c.args.octets.now in
    c.each_message_can_be_heard.ensures long
    (λ heard. verdict.2 (subst (λ (v : List ShownRecord). Begins config v) (sym this)
    ((are (Received second octets) (small, subst (λ (l : Option Link). CanBeHeard config l octets) (sym same) heard)).1 told)))
