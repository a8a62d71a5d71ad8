use Rattle.std.proofs.Common.{◌≡◌, ◌∙◌, inr, Option, ap, sym, subst}
use Rattle.mrt.specs.Reader.{shown_of}
use Rattle.bgp_machine.specs.declared.fsm.Fsm.{Fsm}
use Rattle.bgp_machine.specs.Going.{shown_after, told, undelayed}
use Rattle.bgp_machine.specs.Listed.{changes_of}
use Rattle.bgp_machine.proofs.Moves.{after_no_changes}
use Rattle.bgp_rib.specs.Routes.{Routes, AreRoutes, routes_after}
use Rattle.bgp_judge.specs.Image.{IsImage}
use Rattle.bgp_judge.proofs.EndLists.{if_ok_weaker}
use Rattle.bgp_compact.specs.Members.{IsMember}
use Rattle.bgp_compact.specs.Parts.{AreFine}
use Rattle.bgp_compact.specs.Standing.{IsTableOf}
use Rattle.bgp_compact.specs.Steps.{AreBehind, AreMade, AreMadeAt, FromHead, FromLate, Gains}
use Rattle.bgp_compact.proofs.Announced.{announced_image, announced_made}
use Rattle.bgp_compact.proofs.Images.{behind_fine, if_ok_both, image_none, image_some, paid_behind, paid_fine}
use Rattle.bgp_compact.proofs.Ways.{fsm_undelayed}
use Rattle.bgp_compact.proofs.taking.after_record.Goals as goal

pub returns-in_default-clause-fine : goal.returns-in_default-clause-fine
returns-in_default-clause-fine g c = paid_fine c.args.config.now c.args.words (shown_of c.args.shown.now) c.paid.result c.requires c.paid.ensures

pub returns-in_default-clause-image : goal.returns-in_default-clause-image
returns-in_default-clause-image g c = λ table of.
    image_none c.args.config.now (shown_of c.args.shown.now) c.args.words c.paid.result table c.paid.ensures c.in_default.ensures

pub returns-then-is_announced-clause-image : goal.returns-then-is_announced-clause-image
returns-then-is_announced-clause-image g c = λ table of.
    let config = c.args.config.now in
    let r = shown_of c.args.shown.now in
    subst (λ (v : Routes). IsImage config r (IsMember c.args.words table) (IsMember c.args.words v)) (sym (after_no_changes table))
    (announced_image config c.args.words c.in-Some.base r c.in-Some.ensures (c.is_announced.ensures c.if-is_announced.true) table of)

pub returns-then-is_announced-clause-made : goal.returns-then-is_announced-clause-made
returns-then-is_announced-clause-made g c =
    announced_made c.args.config.now c.args.words c.in-Some.base (shown_of c.args.shown.now) c.in-Some.ensures (c.is_announced.ensures c.if-is_announced.true)

pub add_base-requires-clause-behind : goal.add_base-requires-clause-behind
add_base-requires-clause-behind g c =
    paid_behind c.args.config.now c.args.words (shown_of c.args.shown.now) c.paid-next.result c.in-Some.base c.requires c.paid-next.ensures c.in-Some.ensures

pub returns-clause-image : goal.returns-clause-image
returns-clause-image g c =
    let config = c.args.config.now in
    let r = shown_of c.args.shown.now in
    let base = c.in-Some.base in
    let mid = c.in_ok-left.left in
    if_ok_both c.add_delayed.result
    (λ left. (table : Routes) → AreRoutes table → Gains mid.words left.words (routes_after (changes_of left.changes) table) (FromLate config base r table))
    (λ left. left.changes ≡ mid.changes)
    (λ left. (table : Routes) → IsTableOf c.args.words table → IsImage config r (IsMember c.args.words table) (IsMember left.words (routes_after (changes_of left.changes) table)))
    c.add_delayed.ensures.gains c.add_delayed.ensures.changes
    (λ left late e table of.
    image_some config r c.args.words c.paid-next.result mid.words left.words table (routes_after (changes_of left.changes) table) base c.paid-next.ensures c.in-Some.ensures of
    (subst (λ (v : Option _). Gains c.paid-next.result mid.words (routes_after (changes_of v) table) (FromHead config base r table)) (sym e)
    (c.in_ok-left.ensures.gains table of.are (c.in-Some.ensures.fresh table of)))
    (late table of.are))

pub returns-clause-shown : goal.returns-clause-shown
returns-clause-shown g c =
    if_ok_weaker c.add_delayed.result
    (λ left. AreBehind c.args.config.now (undelayed c.in-Some.base.head) (shown_of c.args.shown.now) left.words)
    (λ left. left.words.shown ≡ shown_after c.args.words.shown (told (shown_of c.args.shown.now)))
    (λ left behind. behind.shown_is ∙ ap (λ (v : Fsm). shown_after v (told (shown_of c.args.shown.now))) (fsm_undelayed c.in-Some.base.head ∙ c.in-Some.ensures.name))
    c.add_delayed.ensures.behind

pub returns-clause-made : goal.returns-clause-made
returns-clause-made g c =
    if_ok_weaker c.add_delayed.result (λ left. left.changes ≡ c.in_ok-left.left.changes)
    (λ left. AreMade c.args.config.now c.args.words (shown_of c.args.shown.now) left.changes)
    (λ left e. inr (
      c.in-Some.base,
      c.in-Some.ensures,
      subst (λ (v : Option _). AreMadeAt c.args.config.now c.in-Some.base.head (shown_of c.args.shown.now) v) (sym e) c.in_ok-left.ensures.made,
    ))
    c.add_delayed.ensures.changes

pub returns-clause-fine : goal.returns-clause-fine
returns-clause-fine g c =
    if_ok_weaker c.add_delayed.result
    (λ left. AreBehind c.args.config.now (undelayed c.in-Some.base.head) (shown_of c.args.shown.now) left.words)
    (λ left. AreFine left.words)
    (λ left behind. behind_fine c.args.config.now (undelayed c.in-Some.base.head) (shown_of c.args.shown.now) left.words behind)
    c.add_delayed.ensures.behind
