-- The table that a session's records make: all routes that the peer has announced (RFC 4271, 3.2),
-- with no family disabled.
use Rattle.std.specs.Prelude.{◌≡◌, ℕ, List, [], ◌∷◌, Option, Some}
use Rattle.bgp_prefix.specs.Shown.{ShownRecord, Received, Sent, Changed}
use Rattle.bgp_open.specs.declared.config.Config.{Config}
use Rattle.bgp_open.specs.declared.families.Families.{Families}
use Rattle.bgp_open.specs.declared.link.Link.{Link}
use Rattle.bgp_update.specs.Changes.{RouteChanges}
use Rattle.bgp_update.specs.Outcome.{IsOutcome, Applied}
use Rattle.bgp_machine.specs.declared.fsm.Fsm.{Fsm}
use Rattle.bgp_machine.specs.declared.fsm.Fsm.TheVariants as fsms
use Rattle.bgp_machine.specs.Going.{fsm_at}
use Rattle.bgp_machine.specs.Heard.{Announces}
use Rattle.bgp_machine.specs.Run.{Run}
use Rattle.bgp_machine.specs.State.{SessionState, fresh_state}
use Rattle.bgp_rib.specs.Routes.{Routes, no_routes, routes_after, routes_without}
use Rattle.bgp_judge.specs.Told.{Told, fresh_told, link_told, told_next}

-- an UPDATE may be applied with these changes
abbrev pub MayApply : Config → Link → List ℕ → RouteChanges → Type 0
MayApply config link octets changes =
    Announces config 2 octets × (families : Families)
    × IsOutcome link octets (Applied changes families)

-- Where an UPDATE may be applied, its changes are made; no other message changes the table.
pub record IsTableChanged (config : Config) (link : Link) (octets : List ℕ) (table next : Routes)
    : Type 0 where
  pub applied : (changes : RouteChanges) → MayApply config link octets changes
      → next ≡ routes_after changes table
  pub kept : ((changes : RouteChanges) → ¬ MayApply config link octets changes) → next ≡ table

-- what a message makes of it: only in Established may it change
abbrev pub IsTableByMessage : Config → Fsm → Link → List ℕ → Routes → Routes → Type 0
IsTableByMessage config fsms.Established link octets table next =
    IsTableChanged config link octets table next
IsTableByMessage config fsm link octets table next = next ≡ table

-- what a change of state makes of it: a session that ends in Idle leaves no route
abbrev pub table_by_change : Option Fsm → Routes → Routes
table_by_change (Some fsms.Idle) table = no_routes
table_by_change change table = table

-- what it is behind one record more, where those before told so
abbrev pub IsTableBehind : Config → Told → ShownRecord → Routes → Routes → Type 0
IsTableBehind config t (Received second octets) table next =
    IsTableByMessage config t.fsm (link_told config t) octets table next
IsTableBehind config t (Sent second octets) table next = next ≡ table
IsTableBehind config t (Changed second old new) table next =
    next ≡ table_by_change (fsm_at new) table

-- what records make of it, one after another
abbrev pub IsTableFrom : Config → Told → Routes → List ShownRecord → Routes → Type 0
IsTableFrom config t table [] last = last ≡ table
IsTableFrom config t table (shown ∷ records) last =
    (next : Routes) × IsTableBehind config t shown table next
    × IsTableFrom config (told_next t shown) next records last

-- the table that the records make
abbrev pub IsTableMade : Config → List ShownRecord → Routes → Type 0
IsTableMade config records table = IsTableFrom config fresh_told no_routes records table

-- ---- the laws

-- records make one table
abbrev pub RecordsMakeOneTable : Type 0
RecordsMakeOneTable =
    (config : Config) (records : List ShownRecord) (table other : Routes)
    → IsTableMade config records table → IsTableMade config records other → table ≡ other

-- each run that shows the records ends with the routes of the table that they make, but for those
-- of the families that it has disabled
abbrev pub EachRunEndsWithTheTable : Type 0
EachRunEndsWithTheTable =
    (config : Config) (records : List ShownRecord) (table : Routes) (e : SessionState)
    → IsTableMade config records table → Run config fresh_state records e
    → e.routes ≡ routes_without e.routes.disabled table
