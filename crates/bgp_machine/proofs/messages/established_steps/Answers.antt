use Rattle.std.proofs.Common.{subst}
use Rattle.bgp_machine.specs.declared.hearing.Heard.{Heard}
use Rattle.bgp_machine.specs.declared.hearing.Heard.TheVariants.{Update}
use Rattle.bgp_machine.specs.declared.state.Head.TheVariants.{Established}
use Rattle.bgp_machine.specs.Listed.{changes_of}
use Rattle.bgp_machine.specs.Rows.{UpdateShown, update_rows}
use Rattle.bgp_machine.specs.Step.{ReceivedIn}
use Rattle.bgp_machine.proofs.GivenChanges.{changes_beside}
use Rattle.bgp_machine.proofs.OneHearing.{one_heard}
use Rattle.bgp_machine.proofs.RowByRow.{all_rows}
use Rattle.bgp_machine.proofs.UpdateRows.{each_update}
use Rattle.bgp_machine.proofs.messages.established_steps.Goals as goal

pub returns-clause-exact : goal.returns-clause-exact
returns-clause-exact g c config hears =
    all_rows (UpdateShown c.args.own c.args.timer c.args.t c.args.octets.now) _ (changes_of c.in_ok-outcomes.outcomes.changes) update_rows _
    (λ row ws ch u h. ((Update, row, hears, h.0), h.1))
    (λ ws ch u h.
    let same = one_heard config c.args.octets.now h.0.0 Update h.0.2 hears in
    let is : ReceivedIn (Established c.args.own c.args.timer) c.args.t c.args.octets.now Update h.0.1 ws u =
    subst (λ (m : Heard). ReceivedIn (Established c.args.own c.args.timer) c.args.t c.args.octets.now m h.0.1 ws u) same h.0.3
    in
    (h.0.1, each_update c.args.own c.args.timer c.args.t c.args.octets.now h.0.1 ws ch u (is, h.1), (is, h.1)))
    (c.update_steps.ensures c.args.octets.now c.in_ok-outcomes.ensures.exact)

pub returns-clause-given : goal.returns-clause-given
returns-clause-given g c =
    changes_beside c.args.own c.args.timer c.args.t c.args.octets.now c.in_ok-outcomes.outcomes _ c.in_ok-outcomes.ensures.exact (c.update_steps.ensures c.args.octets.now c.in_ok-outcomes.ensures.exact)
