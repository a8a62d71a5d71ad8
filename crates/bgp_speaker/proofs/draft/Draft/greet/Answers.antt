use Rattle.std.proofs.Common.{◌∙◌, List, subst, sym}
use Rattle.bgp_prefix.specs.Prefix.{PrefixBits}
use Rattle.bgp_machine.specs.declared.state.Head.{Head}
use Rattle.bgp_machine.specs.State.{link_at}
use Rattle.bgp_rib.specs.Routes.{no_routes}
use Rattle.bgp_speaker.specs.Core.{IsPlain}
use Rattle.bgp_speaker.proofs.Greeting.{GoesOnAnnouncing, all_announced, one_more_told}
use Rattle.bgp_speaker.proofs.draft.Draft.greet.Goals as goal

pub loop-prefix-preserved : goal.loop-prefix-preserved
loop-prefix-preserved g c =
    let does = c.in_ok-tell.ensures in
    record {
      stays = (does no_routes).head ∙ c.loop-prefix.invariant.stays;
      goes = λ routes link timer is.
          one_more_told routes c.args.speaker.now c.args.t link timer c.args.kept.now.keys c.next.new.self c.in-Some.prefix.now c.args.self.now c.loop-prefix.self c.tell.new.self
          (c.loop-prefix.invariant.stays ∙ is)
          (subst (λ (left : List PrefixBits). GoesOnAnnouncing routes c.args.speaker.now c.args.t link c.args.kept.now.keys left c.args.self.now c.loop-prefix.self)
          c.in-Some.ensures.steps (c.loop-prefix.invariant.goes routes link timer is))
          (does routes);
    }

pub tell-requires : goal.tell-requires
tell-requires g c = subst (λ (head : Head). IsPlain (link_at head)) (sym c.loop-prefix.invariant.stays) c.requires

pub returns : goal.returns
returns g c routes =
    let link = c.in-Established.field-0 in
    all_announced routes c.args.speaker.now c.args.kept.now.keys c.args.t c.args.before c.in-OpenConfirm.field-0 link c.in-OpenConfirm.field-1 c.in-Established.field-1
    c.args.self.now c.loop-prefix.self c.in-OpenConfirm.is c.in-Established.is
    (subst (λ (left : List PrefixBits). GoesOnAnnouncing routes c.args.speaker.now c.args.t link c.args.kept.now.keys left c.args.self.now c.loop-prefix.self)
    c.in-None.ensures.steps.0 (c.loop-prefix.invariant.goes routes link c.in-Established.field-1 c.in-Established.is))
