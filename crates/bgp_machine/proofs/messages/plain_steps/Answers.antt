use Rattle.std.proofs.Common.{[], subst}
use Rattle.bgp_machine.specs.declared.hearing.Heard.{Heard}
use Rattle.bgp_machine.specs.Listed.{no_changes}
use Rattle.bgp_machine.specs.Rows.{HeardShown, heard_rows}
use Rattle.bgp_machine.specs.Step.{ReceivedIn}
use Rattle.bgp_machine.proofs.EachRow.{each_heard}
use Rattle.bgp_machine.proofs.GivenChanges.{none_beside, none_makes}
use Rattle.bgp_machine.proofs.OneHearing.{one_heard}
use Rattle.bgp_machine.proofs.RowByRow.{all_rows}
use Rattle.bgp_machine.proofs.messages.plain_steps.Goals as goal

pub returns-clause-exact : goal.returns-clause-exact
returns-clause-exact g c config octets hears =
    all_rows (HeardShown c.args.head c.args.t octets c.args.heard) _ no_changes (heard_rows c.args.head) _
    (λ row ws ch u h. ((c.args.heard, row, hears, h.0), h.1))
    (λ ws ch u h.
    let same = one_heard config octets h.0.0 c.args.heard h.0.2 hears in
    let is : ReceivedIn c.args.head c.args.t octets c.args.heard h.0.1 ws u =
    subst (λ (m : Heard). ReceivedIn c.args.head c.args.t octets m h.0.1 ws u) same h.0.3
    in
    (h.0.1, each_heard c.args.head c.args.t octets c.args.heard h.0.1 ws u c.requires.plain is, (is, h.1)))
    (c.heard_steps.ensures octets)

pub returns-clause-given : goal.returns-clause-given
returns-clause-given g c =
    none_beside c.heard_steps.new.steps.items
    (none_makes c.args.head c.args.t [] c.args.heard no_changes (heard_rows c.args.head) _ c.requires.plain (c.heard_steps.ensures []))
