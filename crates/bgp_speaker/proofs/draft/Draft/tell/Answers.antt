use Rattle.std.proofs.Common.{IsTrue, Some, subst, sym}
use Rattle.bgp_open.specs.Families.{contains}
use Rattle.bgp_machine.specs.State.{link_at}
use Rattle.bgp_machine.specs.declared.state.Head.{Head}
use Rattle.bgp_speaker.specs.Core.{IsPlain}
use Rattle.bgp_speaker.specs.Drafts.{CanBeTold, prefix_told}
use Rattle.bgp_speaker.proofs.Drafting.{on_ok}
use Rattle.bgp_speaker.proofs.Greeting.{may_announce, tells}
use Rattle.bgp_speaker.proofs.draft.Draft.tell.Goals as goal

pub act-requires-clause-taken : goal.act-requires-clause-taken
act-requires-clause-taken g c =
    may_announce c.args.speaker.now.config c.args.self.now.head c.args.t c.in-Established.link c.in-Established.field-1 c.in-Established.is

pub act-requires-clause-told : goal.act-requires-clause-told
act-requires-clause-told g c row =
    let used : IsTrue (contains c.in-Established.link.families (prefix_told c.args.told).family) = (cc) in
    let plain = subst (λ (head : Head). IsPlain (link_at head)) c.in-Established.is c.requires in
    subst (λ (head : Head). CanBeTold (link_at head) (Some c.args.told)) (sym c.in-Established.is) (used, plain)

pub returns : goal.returns
returns g c routes =
    let used : IsTrue (contains c.in-Established.link.families (prefix_told c.args.told).family) = (cc) in
    on_ok c.act.result (c.act.ensures routes) (λ x.
    tells routes c.args.speaker.now c.args.t c.args.told c.in-Established.link c.in-Established.field-1 c.args.self.now c.act.new.self c.in-Established.is used x)
