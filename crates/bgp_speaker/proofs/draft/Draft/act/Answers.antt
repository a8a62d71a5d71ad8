use Rattle.std.proofs.Common.{List, sym, subst}
use Rattle.bgp_machine.specs.declared.want.Want.{Want}
use Rattle.bgp_machine.specs.Lists.{Each}
use Rattle.bgp_machine.specs.State.{link_at}
use Rattle.bgp_speaker.specs.Drafts.{CanBeSaid}
use Rattle.bgp_speaker.proofs.CanBeSaid.{own_said}
use Rattle.bgp_speaker.proofs.Drafting.{on_ok, does_own}
use Rattle.bgp_speaker.proofs.draft.Draft.act.Goals as goal

pub returns : goal.returns
returns g c routes =
    let x = c.in-Some.ensures.is in
    on_ok c.perform.result (c.perform.ensures routes x.0 x.1 x.2 x.4) (λ p.
    does_own routes c.args.speaker.now _ c.args.t c.args.row x.0 x.1 x.2 c.args.self.now c.perform.new.self x.3 p)

pub perform-requires : goal.perform-requires
perform-requires g c =
    let x = c.in-Some.ensures.is in
    subst (λ (ws : List Want). Each (CanBeSaid (link_at c.args.self.now.head) c.args.news.now) ws) (sym x.4.sends)
    (own_said c.args.self.now.head c.args.speaker.now.config c.args.t c.args.news.now c.args.row x.0 x.2 x.3.0 c.requires.told)
