use Rattle.std.proofs.Common.{◌∙◌, ap, max, subst}
use Rattle.bgp_machine.specs.State.{link_at}
use Rattle.bgp_rib.specs.Routes.{no_routes}
use Rattle.bgp_speaker.specs.Core.{CoreState, IsPlain}
use Rattle.bgp_speaker.specs.Drafts.{DoesPicked, cue_value}
use Rattle.bgp_speaker.proofs.Answering.{answers_cue, if_ok}
use Rattle.bgp_speaker.proofs.PlainLinks.{fresh_plain, picked_plain}
use Rattle.bgp_speaker.proofs.engine.Core.cue.Goals as goal

pub commit-requires : goal.commit-requires
commit-requires g c =
    picked_plain no_routes c.self.inside.speaker c.later-t.result (cue_value c.args.cue) c.draft-draft.result c.take_picked.new.self (c.in_ok-take_picked.ensures no_routes)
    (fresh_plain c.args.self.now c.draft-draft.result c.draft-draft.ensures (subst (λ (s : CoreState). IsPlain (link_at s.moment.session.head)) c.self.view_is c.self.invariant.4))

pub returns-clause-ok : goal.returns-clause-ok
returns-clause-ok g c =
    let now = c.args.self.now in
    let t = c.later-t.result in
    if_ok c.commit.result c.commit.ensures.ok (λ out is.
    answers_cue now c.commit.new.self c.args.cue c.args.second t c.draft-draft.result c.take_picked.new.self out
    (c.later-t.ensures ∙ ap (λ (s : CoreState). max s.second c.args.second) c.self.view_is)
    c.draft-draft.ensures
    (subst (λ (s : CoreState). DoesPicked now.moment.session.routes s.speaker t (cue_value c.args.cue) c.draft-draft.result c.take_picked.new.self) c.self.view_is
    (c.in_ok-take_picked.ensures now.moment.session.routes))
    is.1 is.0)
