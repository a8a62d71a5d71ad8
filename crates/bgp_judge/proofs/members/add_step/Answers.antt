use Rattle.std.proofs.Common.{◌≡◌, Option, OnOk, option_copied, ap, subst, ◌∙◌}
use Rattle.bgp_open.specs.declared.link.Link.{Link}
use Rattle.bgp_machine.specs.Listed.{changes_of, turn_of}
use Rattle.bgp_machine.specs.State.{SessionState, moved}
use Rattle.bgp_machine.specs.Want.{wants_of}
use Rattle.bgp_judge.specs.Member.{Member, link_for}
use Rattle.bgp_judge.specs.Plain.{Gains}
use Rattle.bgp_judge.proofs.members.add_step.Goals as goal

pub returns : goal.returns
returns g c =
    let changes = changes_of (option_copied c.args.changes) in
    let to = c.in_ok-take.ensures.ok ∙ ap (λ (s : SessionState). moved s (turn_of changes c.args.step.after)) c.in_ok-after.ensures in
    let on = c.link_for.ensures ∙ ap (λ (k : Option Link). link_for (wants_of c.args.step.wants) k) c.link.ensures in
    subst (λ (v : Member). OnOk c.add.result (Gains c.args.members.now.items c.add.new.members.items (λ m. m ≡ v)))
    (λ i. record { state = to i; link = on i; wants = wants_of c.args.step.wants; change = c.args.step.change }) c.add.ensures
