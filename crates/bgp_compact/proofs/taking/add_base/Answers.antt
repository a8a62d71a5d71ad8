use Rattle.std.proofs.Common.{List, sym, subst}
use Rattle.mrt.specs.Reader.{shown_of}
use Rattle.bgp_machine.specs.declared.step.Step.{Step}
use Rattle.bgp_machine.specs.Listed.{changes_of}
use Rattle.bgp_machine.specs.Lists.{Each, Has}
use Rattle.bgp_rib.specs.Routes.{routes_after}
use Rattle.bgp_compact.specs.Steps.{Fits, FromStep, Gains, IsOpen}
use Rattle.bgp_compact.proofs.Listing.{all_fit, given_where, head_gains}
use Rattle.bgp_compact.proofs.Making.{made_at}
use Rattle.bgp_compact.proofs.taking.add_base.Goals as goal

pub returns-clause-behind : goal.returns-clause-behind
returns-clause-behind g c =
    c.with_steps.ensures.behind c.args.config.now (shown_of c.args.shown.now) (changes_of c.in_ok-changes.changes)
    (subst (λ (v : List Step). Each (IsOpen c.args.config.now c.args.base.head (shown_of c.args.shown.now) (changes_of c.in_ok-changes.changes)) v)
    (sym c.as_slice.ensures.value) c.in_ok-changes.ensures.exact.each)
    c.requires.behind

pub returns-clause-gains : goal.returns-clause-gains
returns-clause-gains g c = λ table are fresh.
    let config = c.args.config.now in
    let r = shown_of c.args.shown.now in
    let changes = changes_of c.in_ok-changes.changes in
    let steps = c.list_openings.new.steps.items in
    head_gains config c.args.base r changes table (routes_after changes table) steps c.args.words c.with_steps.result c.in_ok-changes.ensures.exact
    (subst (λ (v : List Step). Gains c.args.words c.with_steps.result (routes_after changes table) (λ m. Has (λ x. FromStep c.args.base changes table x m) v)) c.as_slice.ensures.value
    (c.with_steps.ensures.gains config r changes table
    (subst (λ (v : List Step). Each (IsOpen config c.args.base.head r changes) v) (sym c.as_slice.ensures.value) c.in_ok-changes.ensures.exact.each)
    c.requires.behind c.requires.some are fresh
    (subst (λ (v : List Step). Each (Fits changes table) v) (sym c.as_slice.ensures.value)
    (all_fit config c.args.base.head r c.in_ok-changes.changes table steps c.in_ok-changes.ensures.exact c.in_ok-changes.ensures.given.0))))

pub returns-clause-given : goal.returns-clause-given
returns-clause-given g c =
    given_where c.args.config.now c.args.base.head (shown_of c.args.shown.now) c.in_ok-changes.changes c.list_openings.new.steps.items
    c.in_ok-changes.ensures.exact c.in_ok-changes.ensures.given.0

pub returns-clause-made : goal.returns-clause-made
returns-clause-made g c =
    made_at c.args.config.now c.args.base.head (shown_of c.args.shown.now) c.in_ok-changes.changes c.list_openings.new.steps.items
    c.in_ok-changes.ensures.exact c.in_ok-changes.ensures.given.0
