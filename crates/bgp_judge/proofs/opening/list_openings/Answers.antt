use Rattle.std.proofs.Common.{ap}
use Rattle.mrt.specs.Reader.{shown_of}
use Rattle.bgp_machine.specs.Listed.{ListsReceived, changes_of}
use Rattle.bgp_judge.specs.Openings.{ListsOpenings}
use Rattle.bgp_judge.proofs.EndLists.{if_ok_weaker}
use Rattle.bgp_judge.proofs.KeptSteps.{received_open}
use Rattle.bgp_judge.proofs.opening.list_openings.Goals as goal

pub returns-in-In-clause-exact : goal.returns-in-In-clause-exact
returns-in-In-clause-exact g c =
    if_ok_weaker c.list_message_steps.result
    (λ changes. ListsReceived c.args.config.now c.args.head c.in-In.t c.in-In.octets.now (changes_of changes) c.list_message_steps.new.steps.items)
    (λ changes. ListsOpenings c.args.config.now c.args.head (shown_of c.args.shown.now) (changes_of changes) c.list_message_steps.new.steps.items)
    (λ changes lists. received_open c.args.config.now c.args.head (shown_of c.args.shown.now) c.in-In.t c.in-In.octets.now (changes_of changes)
    c.list_message_steps.new.steps.items (ap shown_of c.in-In.is) lists)
    c.list_message_steps.ensures.exact
