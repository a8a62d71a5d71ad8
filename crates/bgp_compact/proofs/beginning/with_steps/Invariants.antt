use Rattle.std.proofs.Common.{take}
use Rattle.bgp_prefix.specs.Shown.{ShownRecord}
use Rattle.bgp_open.specs.declared.config.Config.{Config}
use Rattle.bgp_update.specs.Changes.{RouteChanges}
use Rattle.bgp_machine.specs.Going.{undelayed}
use Rattle.bgp_machine.specs.Lists.{Each, Has}
use Rattle.bgp_rib.specs.Routes.{Routes, AreRoutes, routes_after}
use Rattle.bgp_compact.specs.Steps.{AreBehind, AreFresh, Fits, FromStep, Gains, HasSome, IsOpen}
use Rattle.bgp_compact.proofs.beginning.with_steps.Given as goal

-- the words have what the steps so far make of the members of the base
abbrev pub invariant-loop-step : goal.invariant-loop-step
invariant-loop-step l = record {
  behind : (config : Config) (shown : ShownRecord) (changes : RouteChanges) → Each (IsOpen config l.base.head shown changes) l.steps
      → AreBehind config (undelayed l.base.head) shown l.fn.words → AreBehind config (undelayed l.base.head) shown l.next;
  gains : (config : Config) (shown : ShownRecord) (changes : RouteChanges) (table : Routes) → Each (IsOpen config l.base.head shown changes) l.steps
      → AreBehind config (undelayed l.base.head) shown l.fn.words → HasSome l.base → AreRoutes table → AreFresh l.base table → Each (Fits changes table) l.steps
      → Gains l.fn.words l.next (routes_after changes table) (λ m. Has (λ x. FromStep l.base changes table x m) (take l.step-index l.steps));
}
