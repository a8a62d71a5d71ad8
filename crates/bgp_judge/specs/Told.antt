-- What a session's records settle for each run that shows them: the name of its state; the OPEN
-- that gives its link; and the messages that its routes come from.
use Rattle.std.specs.Prelude.{◌≡◌, ◌≢◌, ◌⊎◌, ◌++◌, ℕ, List, [], ◌∷◌, Option, None, Some}
use Rattle.bgp_prefix.specs.Shown.{ShownRecord, Received, Sent, Changed}
use Rattle.bgp_open.specs.declared.config.Config.{Config}
use Rattle.bgp_open.specs.declared.families.Families.{Families}
use Rattle.bgp_open.specs.declared.link.Link.{Link}
use Rattle.bgp_open.specs.Link.{link_of}
use Rattle.bgp_open.specs.Open.{open_of}
use Rattle.bgp_machine.specs.Changes.{RouteChanges}
use Rattle.bgp_machine.specs.Outcome.{IsOutcome, Applied}
use Rattle.bgp_machine.specs.Routes.{Routes, no_routes, routes_after, routes_without}
use Rattle.bgp_machine.specs.declared.fsm.Fsm.{Fsm}
use Rattle.bgp_machine.specs.declared.fsm.Fsm.TheVariants as fsms
use Rattle.bgp_machine.specs.Going.{fsm_at}
use Rattle.bgp_machine.specs.Heard.{Announces}
use Rattle.bgp_machine.specs.Run.{End, IsComplete, Run}
use Rattle.bgp_machine.specs.State.{SessionState, fresh_state, fsm_of, link_at}

-- the name of the state; the message that was received last before OpenConfirm; and those that were
-- received in Established, in order
pub record Told : Type 0 where
  pub fsm : Fsm
  pub peer_open : List ℕ
  pub received : List (List ℕ)

-- before the first record
abbrev pub fresh_told : Told
fresh_told = record { fsm = fsms.Idle; peer_open = []; received = [] }

-- ---- record after record

abbrev pub told_by_message : Fsm → Told → List ℕ → Told
told_by_message fsms.OpenConfirm t octets = t
told_by_message fsms.Established t octets = record t { received = t.received ++ octets ∷ [] }
told_by_message fsm t octets = record t { peer_open = octets }

-- a session that ends in Idle leaves nothing
abbrev pub told_by_change : Option Fsm → Told → Told
told_by_change None t = t
told_by_change (Some fsms.Idle) t = fresh_told
told_by_change (Some fsm) t = record t { fsm = fsm }

abbrev pub told_next : Told → ShownRecord → Told
told_next t (Received second octets) = told_by_message t.fsm t octets
told_next t (Sent second octets) = t
told_next t (Changed second old new) = told_by_change (fsm_at new) t

abbrev pub told_from : Told → List ShownRecord → Told
told_from t [] = t
told_from t (shown ∷ records) = told_from (told_next t shown) records

abbrev pub told : List ShownRecord → Told
told records = told_from fresh_told records

-- ---- what it says of a state

-- the link that is settled
abbrev pub link_told : Config → Told → Link
link_told config t = link_of config (open_of t.peer_open)

-- What a table of routes becomes by a message: an UPDATE's changes are made, as wherever it is
-- applied; other messages change nothing.
abbrev pub IsTableNext : Config → Link → List ℕ → Routes → Routes → Type 0
IsTableNext config link octets table next =
    (Announces config 2 octets × (changes : RouteChanges) × (families : Families)
    × IsOutcome link octets (Applied changes families) × (next ≡ routes_after changes table))
    ⊎ ((¬ Announces config 2 octets) × (next ≡ table))

-- what it becomes by messages, one after another
abbrev pub IsTableAfter : Config → Link → Routes → List (List ℕ) → Routes → Type 0
IsTableAfter config link table [] last = last ≡ table
IsTableAfter config link table (octets ∷ others) last =
    (next : Routes) × IsTableNext config link octets table next
    × IsTableAfter config link next others last

-- The state is as the records say. In Established its routes are those of the table that the
-- messages make, without those of the disabled families; elsewhere it has none.
pub record IsAsTold (config : Config) (t : Told) (s : SessionState) : Type 0 where
  pub fsm : fsm_of s.head ≡ t.fsm
  pub link : (link : Link) → link_at s.head ≡ Some link → link ≡ link_told config t
  pub routes : t.fsm ≡ fsms.Established → (table : Routes)
      × IsTableAfter config (link_told config t) no_routes t.received table
      × (s.routes ≡ routes_without s.routes.disabled table)
  pub none : t.fsm ≢ fsms.Established → s.routes ≡ no_routes

-- ---- the laws

-- each run that shows the records ends as they say
abbrev pub EachRunIsAsTold : Type 0
EachRunIsAsTold =
    (config : Config) (records : List ShownRecord) (e : SessionState)
    → Run config fresh_state records e → IsAsTold config (told records) e

-- by one more record
abbrev pub ToldOneMore : Type 0
ToldOneMore =
    (records : List ShownRecord) (shown : ShownRecord)
    → told (records ++ shown ∷ []) ≡ told_next (told records) shown

-- messages make one table
abbrev pub HasOneTable : Type 0
HasOneTable =
    (config : Config) (link : Link) (messages : List (List ℕ)) (table other : Routes)
    → IsTableAfter config link no_routes messages table
    → IsTableAfter config link no_routes messages other
    → table ≡ other

-- two possible ends with the same families disabled are one
abbrev pub HasOneEnd : Type 0
HasOneEnd =
    (config : Config) (records : List ShownRecord) (one other : End)
    → IsComplete config records one → IsComplete config records other
    → one.routes.disabled ≡ other.routes.disabled → one ≡ other
