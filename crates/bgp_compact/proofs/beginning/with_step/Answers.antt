use Rattle.std.proofs.Common.{sym, ap, subst, ◌∙◌}
use Rattle.bgp_machine.specs.Going.{undelayed}
use Rattle.bgp_rib.specs.Routes.{routes_after}
use Rattle.bgp_compact.specs.declared.falls.Fall.{Fall}
use Rattle.bgp_compact.specs.declared.falls.Falls.{Falls}
use Rattle.bgp_compact.specs.declared.words.Words.{Words}
use Rattle.bgp_compact.specs.Parts.{with_fall}
use Rattle.bgp_compact.specs.Steps.{AreBehind, FromStep, Gains}
use Rattle.bgp_compact.proofs.Stepping.{falls_behind, falls_gain, goes_behind, goes_gain, late_gain}
use Rattle.bgp_compact.proofs.beginning.with_step.Goals as goal

pub returns-in-Idle-clause-behind : goal.returns-in-Idle-clause-behind
returns-in-Idle-clause-behind c = λ config shown changes o behind.
    subst (λ (v : Falls). AreBehind config (undelayed c.args.base.head) shown (record c.args.words { falls = v }))
    (sym (c.with.ensures ∙ ap (λ (v : Fall). with_fall c.args.words.falls v) c.of.ensures))
    (falls_behind config c.args.base shown changes c.args.step c.args.words o behind c.in-Idle.is)

pub returns-in-Idle-clause-gains : goal.returns-in-Idle-clause-gains
returns-in-Idle-clause-gains c = λ config shown changes table o behind some are fresh fits.
    subst (λ (v : Falls). Gains c.args.words (record c.args.words { falls = v }) (routes_after changes table) (FromStep c.args.base changes table c.args.step))
    (sym (c.with.ensures ∙ ap (λ (v : Fall). with_fall c.args.words.falls v) c.of.ensures))
    (falls_gain config c.args.base shown changes table c.args.step c.args.words o behind some fresh c.in-Idle.is)

pub returns-then-is_delayed : goal.returns-then-is_delayed
returns-then-is_delayed c = record {
  behind = λ config shown changes o behind. behind;
  gains = λ config shown changes table o behind some are fresh fits.
      late_gain c.args.base changes table (routes_after changes table) c.args.step c.args.words (sym c.is_delayed.ensures ∙ c.if-is_delayed.true);
}

pub returns-else-is_delayed : goal.returns-else-is_delayed
returns-else-is_delayed c = record {
  behind = λ config shown changes o behind.
      subst (λ (v : Words). AreBehind config (undelayed c.args.base.head) shown v) (sym c.with_front.ensures.rest)
      (goes_behind config c.args.base shown changes c.args.step c.args.words c.with_front.result.sets o behind c.in_default.not-Idle
      (sym c.is_delayed.ensures ∙ c.if-is_delayed.false));
  gains = λ config shown changes table o behind some are fresh fits.
      subst (λ (v : Words). Gains c.args.words v (routes_after changes table) (FromStep c.args.base changes table c.args.step)) (sym c.with_front.ensures.rest)
      (goes_gain config c.args.base shown changes table c.args.step c.args.words c.with_front.result.sets o behind are fits c.in_default.not-Idle
      (sym c.is_delayed.ensures ∙ c.if-is_delayed.false) c.with_front.ensures.sets);
}
