-- The state of a session (RFC 4271, 8.2.2): the name of its state with what its rows look at, and
-- its routes. By its form there is a delay in Connect and Active alone, a HoldTimer in OpenSent,
-- OpenConfirm and Established alone, and a link in the last two alone.
use Rattle.std.specs.Prelude.{ℕ, Option, None, Some}
use Rattle.bgp_open.specs.declared.config.Config.{Config}
use Rattle.bgp_open.specs.declared.families.Families.{Families}
use Rattle.bgp_open.specs.declared.link.Link.{Link}
use Rattle.bgp_rib.specs.Changes.{RouteChanges}
use Rattle.bgp_rib.specs.Routes.{Routes, no_routes, routes_after, routes_without}
use Rattle.bgp_machine.specs.declared.fsm.Fsm.{Fsm}
use Rattle.bgp_machine.specs.declared.fsm.Fsm.TheVariants as fsms
use Rattle.bgp_machine.specs.declared.state.HoldTimer.{HoldTimer}
use Rattle.bgp_machine.specs.declared.state.Head.{Head}
use Rattle.bgp_machine.specs.declared.state.Head.TheVariants.{Idle, Connect, Active, OpenSent}
use Rattle.bgp_machine.specs.declared.state.Head.TheVariants.{OpenConfirm, Established}
use Rattle.bgp_machine.specs.declared.state.State.{State}

-- the state of a session: what its rows look at, and its routes with the disabled families
pub record SessionState : Type 0 where
  pub head : Head
  pub routes : Routes

abbrev pub state_value : {X : Type 0} → State X → SessionState
state_value s = record { head = s.head; routes = s.rib }

-- the state's name
abbrev pub fsm_of : Head → Fsm
fsm_of Idle = fsms.Idle
fsm_of (Connect delay) = fsms.Connect
fsm_of (Active delay) = fsms.Active
fsm_of (OpenSent timer) = fsms.OpenSent
fsm_of (OpenConfirm link timer) = fsms.OpenConfirm
fsm_of (Established link timer) = fsms.Established

-- its number (RFC 6396, 4.4.1)
abbrev pub number_of : Fsm → ℕ
number_of fsms.Idle = 1
number_of fsms.Connect = 2
number_of fsms.Active = 3
number_of fsms.OpenSent = 4
number_of fsms.OpenConfirm = 5
number_of fsms.Established = 6

-- what both OPENs settled, where the peer's was accepted
abbrev pub link_at : Head → Option Link
link_at (OpenConfirm link timer) = Some link
link_at (Established link timer) = Some link
link_at head = None

-- what becomes of the routes: they stay; none is left, and no family is disabled; or changes are
-- made in the families that aren't disabled, and then these are disabled too
pub data RoutesTurn : Type 0 where
  Kept : RoutesTurn
  Cleared : RoutesTurn
  Given : RouteChanges → Families → RoutesTurn

-- how a step ends
pub record Turn : Type 0 where
  pub head : Head
  pub routes : RoutesTurn

abbrev pub routes_by : RoutesTurn → Routes → Routes
routes_by Kept routes = routes
routes_by Cleared routes = no_routes
routes_by (Given changes families) routes = routes_without families (routes_after changes routes)

-- the state after a step
abbrev pub moved : SessionState → Turn → SessionState
moved s turn = record { head = turn.head; routes = routes_by turn.routes s.routes }

-- the state of a session that nothing happened to
abbrev pub fresh_state : SessionState
fresh_state = record { head = Idle; routes = no_routes }

-- ---- the ways in which a step ends

-- the routes stay as they are
abbrev pub enters : Head → Turn
enters head = record { head = head; routes = Kept }

-- the fresh state
abbrev pub falls : Turn
falls = record { head = Idle; routes = Cleared }

-- the peer's OPEN is waited for, with a large HoldTimer
abbrev pub waiting : Config → ℕ → Head
waiting config t = OpenSent (record { since = t; span = config.parts.large_hold })

-- the HoldTimer is set to the Hold Time that both OPENs settled
abbrev pub settled : Link → ℕ → HoldTimer
settled link t = record { since = t; span = link.hold }

-- the HoldTimer is set again
abbrev pub renewed : HoldTimer → ℕ → HoldTimer
renewed timer t = record timer { since = t }
