-- Each run that shows records ends as they say: a clause a row.
use Rattle.std.proofs.Common.{◌≡◌, ℕ, true, false, inl, inr, List, [], ◌∷◌, ◌++◌, Option, None, Some, refl, sym, ap, subst, ◌∙◌}
use Rattle.bgp_prefix.specs.Shown.{ShownRecord, Received, Sent, Changed}
use Rattle.bgp_open.specs.declared.config.Config.{Config}
use Rattle.bgp_open.specs.declared.families.Families.{Families}
use Rattle.bgp_open.specs.declared.link.Link.{Link}
use Rattle.bgp_machine.specs.Changes.{RouteChanges}
use Rattle.bgp_machine.specs.Outcome.{IsOutcome, Applied}
use Rattle.bgp_machine.proofs.OneOutcome.{one_change}
use Rattle.bgp_open.specs.Families.{union}
use Rattle.bgp_machine.specs.Routes.{Routes, AreRoutes, no_routes, routes_after, routes_without}
use Rattle.bgp_machine.proofs.RouteLaws.{none_are, changed_are, left_out}
use Rattle.bgp_machine.specs.declared.fsm.Fsm.{Fsm}
use Rattle.bgp_machine.specs.declared.fsm.Fsm.TheVariants as fsms
use Rattle.bgp_machine.specs.declared.hearing.Heard.{Heard}
use Rattle.bgp_machine.specs.declared.hearing.Heard.TheVariants.{TooShort, ValidOpen, FaultyHeader, InvalidOpen, BadVersion, Notification, Keepalive, Update}
use Rattle.bgp_machine.specs.declared.rows.HiddenRow.{HiddenRow}
use Rattle.bgp_machine.specs.declared.rows.HiddenRow.TheVariants.{Starts, Listens, ConnectionOpens, DelayBegins, DelayExpires, ConnectionFails, RetryExpires, Stops, Ceases, HoldExpires, SendHoldExpires, KeepaliveExpires, Announces, Notes}
use Rattle.bgp_machine.specs.declared.state.Head.{Head}
use Rattle.bgp_machine.specs.declared.state.Head.TheVariants.{Idle, Connect, Active, OpenSent, OpenConfirm, Established}
use Rattle.bgp_machine.specs.declared.want.Want.{Want}
use Rattle.bgp_machine.specs.Going.{Falling, GoingOn, fsm_at, going_on}
use Rattle.bgp_machine.specs.Heard.{Hears}
use Rattle.bgp_machine.specs.Heard as hearing
use Rattle.bgp_machine.specs.Run.{End, AreSteps, Taken, Run, records_of}
use Rattle.bgp_machine.specs.Shows.{PaysAll, Shows}
use Rattle.bgp_machine.specs.State.{Kept, Given, SessionState, Turn, enters, falls, fresh_state, fsm_of, link_at, moved, number_of, renewed, routes_by, waiting}
use Rattle.bgp_machine.specs.Step.{Event, HiddenIn, Hidden, Row, Step, change_of, changed, hidden_change}
use Rattle.bgp_machine.specs.Step as steps
use Rattle.bgp_machine.proofs.OneHearing.{one_heard}
use Rattle.bgp_machine.proofs.Shapes.{shape_received}
use Rattle.bgp_judge.specs.Told.{Told, IsAsTold, IsTableAfter, IsTableNext, fresh_told, link_told, told, told_by_change, told_by_message, told_from, told_next, EachRunIsAsTold, HasOneEnd, HasOneTable, ToldOneMore}

-- ---- record after record

pub told_joined : (t : Told) (xs ys : List ShownRecord) → told_from t (xs ++ ys) ≡ told_from (told_from t xs) ys
told_joined t [] ys = refl
told_joined t (x ∷ xs) ys = told_joined (told_next t x) xs ys

pub told_one_more : ToldOneMore
told_one_more records shown = told_joined fresh_told records (shown ∷ [])

-- what a step's change tells
abbrev shown_by : Told → Option (Fsm × Fsm) → Told
shown_by t None = t
shown_by t (Some c) = told_by_change (fsm_at (number_of c.1)) t

pays_told : (config : Config) (link : Option Link) (wants : List Want) (change : Option (Fsm × Fsm)) (rs : List ShownRecord) (t : Told)
    → PaysAll config link wants change rs → told_from t rs ≡ shown_by t change
pays_told config link wants change [] t pays = ap (shown_by t) (sym pays.1)
pays_told config link wants change (Received u octets ∷ rs) t pays = absurd pays.2
pays_told config link [] change (Sent u octets ∷ rs) t pays = absurd pays.2
pays_told config link (want ∷ wants) change (Sent u octets ∷ rs) t pays =
    pays_told config link pays.0 pays.1 rs t pays.3 ∙ ap (shown_by t) pays.2.2
pays_told config link wants None (Changed u x y ∷ rs) t pays = absurd pays.2
pays_told config link wants (Some c) (Changed u x y ∷ rs) t pays =
    pays_told config link pays.0 pays.1 rs (told_by_change (fsm_at y) t) pays.3 ∙ ap (shown_by (told_by_change (fsm_at y) t)) pays.2.3
    ∙ ap (λ n. told_by_change (fsm_at n) t) pays.2.1

-- ---- how a state stands to what was told

-- the routes come from the table that the messages make
abbrev ComeFrom : Config → Told → Routes → Type 0
ComeFrom config T routes =
    (table : Routes) × IsTableAfter config (link_told config T) no_routes T.received table × (routes ≡ routes_without routes.disabled table)

abbrev Held : Config → Told → Head → Routes → Type 0
Held config T Idle routes = (T.fsm ≡ fsms.Idle) × (routes ≡ no_routes) × (T.received ≡ [])
Held config T (Connect delay) routes = (T.fsm ≡ fsms.Connect) × (routes ≡ no_routes) × (T.received ≡ [])
Held config T (Active delay) routes = (T.fsm ≡ fsms.Active) × (routes ≡ no_routes) × (T.received ≡ [])
Held config T (OpenSent timer) routes = (T.fsm ≡ fsms.OpenSent) × (routes ≡ no_routes) × (T.received ≡ [])
Held config T (OpenConfirm link timer) routes =
    (T.fsm ≡ fsms.OpenConfirm) × (routes ≡ no_routes) × (T.received ≡ []) × (link ≡ link_told config T)
Held config T (Established link timer) routes = (T.fsm ≡ fsms.Established) × (link ≡ link_told config T) × ComeFrom config T routes

name_held : (config : Config) (T : Told) (head : Head) (routes : Routes) → Held config T head routes → T.fsm ≡ fsm_of head
name_held config T Idle routes h = h.0
name_held config T (Connect delay) routes h = h.0
name_held config T (Active delay) routes h = h.0
name_held config T (OpenSent timer) routes h = h.0
name_held config T (OpenConfirm link timer) routes h = h.0
name_held config T (Established link timer) routes h = h.0

-- ---- what a state does by itself

-- a row read at its own end
at_turn : (config : Config) (T : Told) (head : Head) (routes : Routes) (row : HiddenRow) (turn x : Turn) → turn ≡ x
    → Held config (shown_by T (hidden_change row (fsm_of head) (fsm_of x.head))) x.head (routes_by x.routes routes)
    → Held config (shown_by T (hidden_change row (fsm_of head) (fsm_of turn.head))) turn.head (routes_by turn.routes routes)
at_turn config T head routes row turn x e h =
    subst (λ (y : Turn). Held config (shown_by T (hidden_change row (fsm_of head) (fsm_of y.head))) y.head (routes_by y.routes routes)) (sym e) h

hidden_held : (config : Config) (T : Told) (head : Head) (routes : Routes) (t : ℕ) (row : HiddenRow) (wants : List Want) (turn : Turn)
    → HiddenIn head config t row wants turn → Held config T head routes
    → Held config (shown_by T (hidden_change row (fsm_of head) (fsm_of turn.head))) turn.head (routes_by turn.routes routes)
hidden_held config T Idle routes t Starts wants turn r h = at_turn config T Idle routes Starts turn (enters (Connect false)) r.1 (refl, h.1, h.2)
hidden_held config T Idle routes t Listens wants turn r h = at_turn config T Idle routes Listens turn (enters (Active false)) r.1 (refl, h.1, h.2)
hidden_held config T Idle routes t Notes wants turn r h = at_turn config T Idle routes Notes turn (enters Idle) r.1 (refl, h.1, refl)
hidden_held config T (Connect delay) routes t Stops wants turn r h = at_turn config T (Connect delay) routes Stops turn falls r.1 (refl, refl, refl)
hidden_held config T (Connect delay) routes t RetryExpires wants turn r h = at_turn config T (Connect delay) routes RetryExpires turn (enters (Connect false)) r.1 h
hidden_held config T (Connect delay) routes t DelayExpires wants turn r h = at_turn config T (Connect delay) routes DelayExpires turn (enters (waiting config t)) r.2 (refl, h.1, h.2)
hidden_held config T (Connect delay) routes t ConnectionOpens wants turn r h = at_turn config T (Connect delay) routes ConnectionOpens turn (enters (waiting config t)) r.1 (refl, h.1, h.2)
hidden_held config T (Connect delay) routes t DelayBegins wants turn r h = at_turn config T (Connect delay) routes DelayBegins turn (enters (Connect true)) r.2 h
hidden_held config T (Connect true) routes t ConnectionFails wants turn r h = at_turn config T (Connect true) routes ConnectionFails turn (enters (Active false)) r.1 (refl, h.1, h.2)
hidden_held config T (Connect false) routes t ConnectionFails wants turn r h = at_turn config T (Connect false) routes ConnectionFails turn falls r.1 (refl, refl, refl)
hidden_held config T (Connect delay) routes t Notes wants turn r h = at_turn config T (Connect delay) routes Notes turn (enters (Connect delay)) r.1 (refl, h.1, h.2)
hidden_held config T (Active delay) routes t Stops wants turn r h = at_turn config T (Active delay) routes Stops turn falls r.1 (refl, refl, refl)
hidden_held config T (Active delay) routes t Ceases wants turn r h = at_turn config T (Active delay) routes Ceases turn falls r.2 (refl, refl, refl)
hidden_held config T (Active delay) routes t RetryExpires wants turn r h = at_turn config T (Active delay) routes RetryExpires turn (enters (Connect false)) r.1 (refl, h.1, h.2)
hidden_held config T (Active delay) routes t DelayExpires wants turn r h = at_turn config T (Active delay) routes DelayExpires turn (enters (waiting config t)) r.2 (refl, h.1, h.2)
hidden_held config T (Active delay) routes t ConnectionOpens wants turn r h = at_turn config T (Active delay) routes ConnectionOpens turn (enters (waiting config t)) r.1 (refl, h.1, h.2)
hidden_held config T (Active delay) routes t DelayBegins wants turn r h = at_turn config T (Active delay) routes DelayBegins turn (enters (Active true)) r.2 h
hidden_held config T (Active delay) routes t ConnectionFails wants turn r h = at_turn config T (Active delay) routes ConnectionFails turn falls r.1 (refl, refl, refl)
hidden_held config T (Active delay) routes t Notes wants turn r h = at_turn config T (Active delay) routes Notes turn (enters (Active delay)) r.1 (refl, h.1, h.2)
hidden_held config T (OpenSent timer) routes t Ceases wants turn r h = at_turn config T (OpenSent timer) routes Ceases turn falls r.1 (refl, refl, refl)
hidden_held config T (OpenSent timer) routes t HoldExpires wants turn r h = at_turn config T (OpenSent timer) routes HoldExpires turn falls r.2 (refl, refl, refl)
hidden_held config T (OpenSent timer) routes t ConnectionFails wants turn r h = at_turn config T (OpenSent timer) routes ConnectionFails turn (enters (Active false)) r.1 (refl, h.1, h.2)
hidden_held config T (OpenSent timer) routes t Notes wants turn r h = at_turn config T (OpenSent timer) routes Notes turn (enters (OpenSent timer)) r.1 (refl, h.1, h.2)
hidden_held config T (OpenConfirm link timer) routes t Ceases wants turn r h = at_turn config T (OpenConfirm link timer) routes Ceases turn falls r.1 (refl, refl, refl)
hidden_held config T (OpenConfirm link timer) routes t HoldExpires wants turn r h = at_turn config T (OpenConfirm link timer) routes HoldExpires turn falls r.2 (refl, refl, refl)
hidden_held config T (OpenConfirm link timer) routes t KeepaliveExpires wants turn r h = at_turn config T (OpenConfirm link timer) routes KeepaliveExpires turn (enters (OpenConfirm link timer)) r.2 h
hidden_held config T (OpenConfirm link timer) routes t ConnectionFails wants turn r h = at_turn config T (OpenConfirm link timer) routes ConnectionFails turn falls r.1 (refl, refl, refl)
hidden_held config T (OpenConfirm link timer) routes t Notes wants turn r h = at_turn config T (OpenConfirm link timer) routes Notes turn (enters (OpenConfirm link timer)) r.1 (refl, h.1, h.2, h.3)
hidden_held config T (Established link timer) routes t Ceases wants turn r h = at_turn config T (Established link timer) routes Ceases turn falls r.1 (refl, refl, refl)
hidden_held config T (Established link timer) routes t HoldExpires wants turn r h = at_turn config T (Established link timer) routes HoldExpires turn falls r.2 (refl, refl, refl)
hidden_held config T (Established link timer) routes t SendHoldExpires wants turn r h = at_turn config T (Established link timer) routes SendHoldExpires turn falls r.2 (refl, refl, refl)
hidden_held config T (Established link timer) routes t KeepaliveExpires wants turn r h = at_turn config T (Established link timer) routes KeepaliveExpires turn (enters (Established link timer)) r.2 h
hidden_held config T (Established link timer) routes t ConnectionFails wants turn r h = at_turn config T (Established link timer) routes ConnectionFails turn falls r.1 (refl, refl, refl)
hidden_held config T (Established link timer) routes t Announces wants turn r h = at_turn config T (Established link timer) routes Announces turn (enters (Established link timer)) r.1 h
hidden_held config T (Established link timer) routes t Notes wants turn r h = at_turn config T (Established link timer) routes Notes turn (enters (Established link timer)) r.1 (refl, h.1, h.2)
hidden_held config T head routes t row wants turn r h = absurd r

-- ---- what it does about a message

at_end : (config : Config) (T : Told) (head : Head) (routes : Routes) (turn x : Turn) → turn ≡ x
    → Held config (shown_by T (changed (fsm_of head) (fsm_of x.head))) x.head (routes_by x.routes routes)
    → Held config (shown_by T (changed (fsm_of head) (fsm_of turn.head))) turn.head (routes_by turn.routes routes)
at_end config T head routes turn x e h =
    subst (λ (y : Turn). Held config (shown_by T (changed (fsm_of head) (fsm_of y.head))) y.head (routes_by y.routes routes)) (sym e) h

-- it falls
falls_held : (config : Config) (T : Told) (head : Head) (routes : Routes) (octets : List ℕ) → Held config T head routes
    → Held config (shown_by (told_by_message (fsm_of head) T octets) (changed (fsm_of head) fsms.Idle)) Idle no_routes
falls_held config T Idle routes octets h = (h.0, refl, h.2)
falls_held config T (Connect delay) routes octets h = (refl, refl, refl)
falls_held config T (Active delay) routes octets h = (refl, refl, refl)
falls_held config T (OpenSent timer) routes octets h = (refl, refl, refl)
falls_held config T (OpenConfirm link timer) routes octets h = (refl, refl, refl)
falls_held config T (Established link timer) routes octets h = (refl, refl, refl)

falling_held : (config : Config) (T : Told) (head : Head) (routes : Routes) (octets : List ℕ) (wants : List Want) (turn : Turn)
    → Falling head wants turn → Held config T head routes
    → Held config (shown_by (told_by_message (fsm_of head) T octets) (changed (fsm_of head) (fsm_of turn.head))) turn.head (routes_by turn.routes routes)
falling_held config T head routes octets wants turn falling h = elim falling.ends [
  | inl e ↦ at_end config (told_by_message (fsm_of head) T octets) head routes turn falls e (falls_held config T head routes octets h)
  | inr k ↦ at_end config (told_by_message (fsm_of head) T octets) head routes turn (enters Idle) k.1
      (subst (λ (x : Head). Held config T x routes → Held config (shown_by (told_by_message (fsm_of x) T octets) (changed (fsm_of x) fsms.Idle)) Idle routes) (sym k.0)
      (λ (idle : Held config T Idle routes). (idle.0, idle.1, idle.2)) h)
]

-- the table after one message more
table_more : (config : Config) (link : Link) (table : Routes) (messages : List (List ℕ)) (octets : List ℕ) (last next : Routes) → IsTableAfter config link table messages last
    → IsTableNext config link octets last next → IsTableAfter config link table (messages ++ octets ∷ []) next
table_more config link table [] octets last next e is = (next, subst (λ (v : Routes). IsTableNext config link octets v next) e is, refl)
table_more config link table (m ∷ messages) octets last next after is = (after.0, after.1, table_more config link after.0 messages octets last next after.2 is)

-- the families that are disabled
disabled_kept : (changes : RouteChanges) (routes : Routes) → (routes_after changes routes).disabled ≡ routes.disabled
unfolding routes_after
disabled_kept changes routes = refl

disabled_without : (families : Families) (routes : Routes) → routes.disabled ≡ record { v4 = false; v6 = false }
    → (routes_without families routes).disabled ≡ families
unfolding routes_without
disabled_without families routes e = ap (λ (f : Families). union f families) e

no_routes_without : no_routes ≡ routes_without no_routes.disabled no_routes
unfolding routes_without
no_routes_without = refl

-- tables are routes, and no family is disabled in them
abbrev IsTable : Routes → Type 0
IsTable table = AreRoutes table × (table.disabled ≡ record { v4 = false; v6 = false })

next_table : (config : Config) (link : Link) (octets : List ℕ) (table next : Routes) → IsTable table → IsTableNext config link octets table next → IsTable next
next_table config link octets table next is (inl k) = subst IsTable (sym k.4) (changed_are k.1 table is.0, disabled_kept k.1 table ∙ is.1)
next_table config link octets table next is (inr k) = subst IsTable (sym k.1) is

pub is_table : (config : Config) (link : Link) (table : Routes) (messages : List (List ℕ)) (last : Routes) → IsTable table → IsTableAfter config link table messages last → IsTable last
is_table config link table [] last is e = subst IsTable (sym e) is
is_table config link table (m ∷ messages) last is after = is_table config link after.0 messages last (next_table config link m table after.0 is after.1) after.2

-- an UPDATE that is applied
applied : (changes : RouteChanges) (families : Families) (routes table : Routes) → IsTable table → routes ≡ routes_without routes.disabled table
    → routes_without families (routes_after changes routes)
    ≡ routes_without (routes_without families (routes_after changes routes)).disabled (routes_after changes table)
applied changes families routes table is e =
    let all = ap (λ (v : Routes). routes_without families (routes_after changes v)) e ∙ left_out changes routes.disabled families table is.0 in
    let same = ap (λ (v : Routes). v.disabled) all
    ∙ disabled_without (union routes.disabled families) (routes_after changes table) (disabled_kept changes table ∙ is.1) in
    all ∙ ap (λ (f : Families). routes_without f (routes_after changes table)) (sym same)

-- one message more in Established that isn't an UPDATE
passed_over : (config : Config) (T : Told) (octets : List ℕ) (routes : Routes) → (¬ hearing.Announces config 2 octets) → ComeFrom config T routes
    → ComeFrom config (record T { received = T.received ++ octets ∷ [] }) routes
passed_over config T octets routes other from =
    (from.0, table_more config (link_told config T) no_routes T.received octets from.0 from.0 from.1 (inr (other, refl)), from.2)

update_applied : (config : Config) (T : Told) (octets : List ℕ) (routes : Routes) (changes : RouteChanges) (families : Families)
    → hearing.Announces config 2 octets → IsOutcome (link_told config T) octets (Applied changes families) → ComeFrom config T routes
    → ComeFrom config (record T { received = T.received ++ octets ∷ [] }) (routes_without families (routes_after changes routes))
update_applied config T octets routes changes families is outcome from = (
  routes_after changes from.0,
  table_more config (link_told config T) no_routes T.received octets from.0 (routes_after changes from.0) from.1 (inl (is, changes, families, outcome, refl)),
  applied changes families routes from.0 (is_table config (link_told config T) no_routes T.received from.0 (none_are, refl) from.1) from.2,
)

-- another message is no UPDATE
no_update : (config : Config) (octets : List ℕ) (x : Heard) → Hears config octets x → (x ≡ Update → ⊥) → ¬ hearing.Announces config 2 octets
no_update config octets x hears other is = other (one_heard config octets x Update hears is)

going_end : (head : Head) (t : ℕ) (octets : List ℕ) (x : Heard) (wants : List Want) (turn : Turn) → GoingOn head t octets x wants turn
    → turn.routes ≡ Kept → turn ≡ enters (going_on head t x)
going_end head t octets x wants turn goes kept = λ i. record { head = goes.head_after i; routes = kept i }

-- the table of a session that begins
new_table : (config : Config) (T : Told) (routes : Routes) → routes ≡ no_routes → T.received ≡ [] → ComeFrom config (record T { fsm = fsms.Established }) routes
new_table config T routes none empty = (
  no_routes,
  subst (λ (m : List (List ℕ)). IsTableAfter config (link_told config T) no_routes m no_routes) (sym empty) refl,
  subst (λ (r : Routes). r ≡ routes_without r.disabled no_routes) (sym none) no_routes_without,
)

going_held : (config : Config) (T : Told) (head : Head) (routes : Routes) (t : ℕ) (octets : List ℕ) (x : Heard) (wants : List Want) (turn : Turn)
    → Hears config octets x → GoingOn head t octets x wants turn → Held config T head routes
    → Held config (shown_by (told_by_message (fsm_of head) T octets) (changed (fsm_of head) (fsm_of turn.head))) turn.head (routes_by turn.routes routes)
going_held config T Idle routes t octets TooShort wants turn hears goes h =
    at_end config (told_by_message (fsm_of Idle) T octets) Idle routes turn (enters (going_on Idle t TooShort)) (going_end Idle t octets TooShort wants turn goes goes.routes) (h.0, h.1, h.2)
going_held config T Idle routes t octets (ValidOpen l e) wants turn hears goes h =
    at_end config (told_by_message (fsm_of Idle) T octets) Idle routes turn (enters (going_on Idle t (ValidOpen l e))) (going_end Idle t octets (ValidOpen l e) wants turn goes goes.routes) (h.0, h.1, h.2)
going_held config T Idle routes t octets (FaultyHeader f) wants turn hears goes h =
    at_end config (told_by_message (fsm_of Idle) T octets) Idle routes turn (enters (going_on Idle t (FaultyHeader f))) (going_end Idle t octets (FaultyHeader f) wants turn goes goes.routes) (h.0, h.1, h.2)
going_held config T Idle routes t octets (InvalidOpen e) wants turn hears goes h =
    at_end config (told_by_message (fsm_of Idle) T octets) Idle routes turn (enters (going_on Idle t (InvalidOpen e))) (going_end Idle t octets (InvalidOpen e) wants turn goes goes.routes) (h.0, h.1, h.2)
going_held config T Idle routes t octets BadVersion wants turn hears goes h =
    at_end config (told_by_message (fsm_of Idle) T octets) Idle routes turn (enters (going_on Idle t BadVersion)) (going_end Idle t octets BadVersion wants turn goes goes.routes) (h.0, h.1, h.2)
going_held config T Idle routes t octets Notification wants turn hears goes h =
    at_end config (told_by_message (fsm_of Idle) T octets) Idle routes turn (enters (going_on Idle t Notification)) (going_end Idle t octets Notification wants turn goes goes.routes) (h.0, h.1, h.2)
going_held config T Idle routes t octets Keepalive wants turn hears goes h =
    at_end config (told_by_message (fsm_of Idle) T octets) Idle routes turn (enters (going_on Idle t Keepalive)) (going_end Idle t octets Keepalive wants turn goes goes.routes) (h.0, h.1, h.2)
going_held config T Idle routes t octets Update wants turn hears goes h =
    at_end config (told_by_message (fsm_of Idle) T octets) Idle routes turn (enters (going_on Idle t Update)) (going_end Idle t octets Update wants turn goes goes.routes) (h.0, h.1, h.2)
going_held config T (Connect delay) routes t octets TooShort wants turn hears goes h =
    at_end config (told_by_message (fsm_of (Connect delay)) T octets) (Connect delay) routes turn (enters (going_on (Connect delay) t TooShort)) (going_end (Connect delay) t octets TooShort wants turn goes goes.routes) (h.0, h.1, h.2)
going_held config T (Connect delay) routes t octets (ValidOpen l e) wants turn hears goes h =
    at_end config (told_by_message (fsm_of (Connect delay)) T octets) (Connect delay) routes turn (enters (going_on (Connect delay) t (ValidOpen l e))) (going_end (Connect delay) t octets (ValidOpen l e) wants turn goes goes.routes) (refl, h.1, h.2, hears.2)
going_held config T (Connect delay) routes t octets (FaultyHeader f) wants turn hears goes h =
    at_end config (told_by_message (fsm_of (Connect delay)) T octets) (Connect delay) routes turn (enters (going_on (Connect delay) t (FaultyHeader f))) (going_end (Connect delay) t octets (FaultyHeader f) wants turn goes goes.routes) (h.0, h.1, h.2)
going_held config T (Connect delay) routes t octets (InvalidOpen e) wants turn hears goes h =
    at_end config (told_by_message (fsm_of (Connect delay)) T octets) (Connect delay) routes turn (enters (going_on (Connect delay) t (InvalidOpen e))) (going_end (Connect delay) t octets (InvalidOpen e) wants turn goes goes.routes) (h.0, h.1, h.2)
going_held config T (Connect delay) routes t octets BadVersion wants turn hears goes h =
    at_end config (told_by_message (fsm_of (Connect delay)) T octets) (Connect delay) routes turn (enters (going_on (Connect delay) t BadVersion)) (going_end (Connect delay) t octets BadVersion wants turn goes goes.routes) (h.0, h.1, h.2)
going_held config T (Connect delay) routes t octets Notification wants turn hears goes h =
    at_end config (told_by_message (fsm_of (Connect delay)) T octets) (Connect delay) routes turn (enters (going_on (Connect delay) t Notification)) (going_end (Connect delay) t octets Notification wants turn goes goes.routes) (h.0, h.1, h.2)
going_held config T (Connect delay) routes t octets Keepalive wants turn hears goes h =
    at_end config (told_by_message (fsm_of (Connect delay)) T octets) (Connect delay) routes turn (enters (going_on (Connect delay) t Keepalive)) (going_end (Connect delay) t octets Keepalive wants turn goes goes.routes) (h.0, h.1, h.2)
going_held config T (Connect delay) routes t octets Update wants turn hears goes h =
    at_end config (told_by_message (fsm_of (Connect delay)) T octets) (Connect delay) routes turn (enters (going_on (Connect delay) t Update)) (going_end (Connect delay) t octets Update wants turn goes goes.routes) (h.0, h.1, h.2)
going_held config T (Active delay) routes t octets TooShort wants turn hears goes h =
    at_end config (told_by_message (fsm_of (Active delay)) T octets) (Active delay) routes turn (enters (going_on (Active delay) t TooShort)) (going_end (Active delay) t octets TooShort wants turn goes goes.routes) (h.0, h.1, h.2)
going_held config T (Active delay) routes t octets (ValidOpen l e) wants turn hears goes h =
    at_end config (told_by_message (fsm_of (Active delay)) T octets) (Active delay) routes turn (enters (going_on (Active delay) t (ValidOpen l e))) (going_end (Active delay) t octets (ValidOpen l e) wants turn goes goes.routes) (refl, h.1, h.2, hears.2)
going_held config T (Active delay) routes t octets (FaultyHeader f) wants turn hears goes h =
    at_end config (told_by_message (fsm_of (Active delay)) T octets) (Active delay) routes turn (enters (going_on (Active delay) t (FaultyHeader f))) (going_end (Active delay) t octets (FaultyHeader f) wants turn goes goes.routes) (h.0, h.1, h.2)
going_held config T (Active delay) routes t octets (InvalidOpen e) wants turn hears goes h =
    at_end config (told_by_message (fsm_of (Active delay)) T octets) (Active delay) routes turn (enters (going_on (Active delay) t (InvalidOpen e))) (going_end (Active delay) t octets (InvalidOpen e) wants turn goes goes.routes) (h.0, h.1, h.2)
going_held config T (Active delay) routes t octets BadVersion wants turn hears goes h =
    at_end config (told_by_message (fsm_of (Active delay)) T octets) (Active delay) routes turn (enters (going_on (Active delay) t BadVersion)) (going_end (Active delay) t octets BadVersion wants turn goes goes.routes) (h.0, h.1, h.2)
going_held config T (Active delay) routes t octets Notification wants turn hears goes h =
    at_end config (told_by_message (fsm_of (Active delay)) T octets) (Active delay) routes turn (enters (going_on (Active delay) t Notification)) (going_end (Active delay) t octets Notification wants turn goes goes.routes) (h.0, h.1, h.2)
going_held config T (Active delay) routes t octets Keepalive wants turn hears goes h =
    at_end config (told_by_message (fsm_of (Active delay)) T octets) (Active delay) routes turn (enters (going_on (Active delay) t Keepalive)) (going_end (Active delay) t octets Keepalive wants turn goes goes.routes) (h.0, h.1, h.2)
going_held config T (Active delay) routes t octets Update wants turn hears goes h =
    at_end config (told_by_message (fsm_of (Active delay)) T octets) (Active delay) routes turn (enters (going_on (Active delay) t Update)) (going_end (Active delay) t octets Update wants turn goes goes.routes) (h.0, h.1, h.2)
going_held config T (OpenSent timer) routes t octets TooShort wants turn hears goes h =
    at_end config (told_by_message (fsm_of (OpenSent timer)) T octets) (OpenSent timer) routes turn (enters (going_on (OpenSent timer) t TooShort)) (going_end (OpenSent timer) t octets TooShort wants turn goes goes.routes) (h.0, h.1, h.2)
going_held config T (OpenSent timer) routes t octets (ValidOpen l e) wants turn hears goes h =
    at_end config (told_by_message (fsm_of (OpenSent timer)) T octets) (OpenSent timer) routes turn (enters (going_on (OpenSent timer) t (ValidOpen l e))) (going_end (OpenSent timer) t octets (ValidOpen l e) wants turn goes goes.routes) (refl, h.1, h.2, hears.2)
going_held config T (OpenSent timer) routes t octets (FaultyHeader f) wants turn hears goes h =
    at_end config (told_by_message (fsm_of (OpenSent timer)) T octets) (OpenSent timer) routes turn (enters (going_on (OpenSent timer) t (FaultyHeader f))) (going_end (OpenSent timer) t octets (FaultyHeader f) wants turn goes goes.routes) (h.0, h.1, h.2)
going_held config T (OpenSent timer) routes t octets (InvalidOpen e) wants turn hears goes h =
    at_end config (told_by_message (fsm_of (OpenSent timer)) T octets) (OpenSent timer) routes turn (enters (going_on (OpenSent timer) t (InvalidOpen e))) (going_end (OpenSent timer) t octets (InvalidOpen e) wants turn goes goes.routes) (h.0, h.1, h.2)
going_held config T (OpenSent timer) routes t octets BadVersion wants turn hears goes h =
    at_end config (told_by_message (fsm_of (OpenSent timer)) T octets) (OpenSent timer) routes turn (enters (going_on (OpenSent timer) t BadVersion)) (going_end (OpenSent timer) t octets BadVersion wants turn goes goes.routes) (h.0, h.1, h.2)
going_held config T (OpenSent timer) routes t octets Notification wants turn hears goes h =
    at_end config (told_by_message (fsm_of (OpenSent timer)) T octets) (OpenSent timer) routes turn (enters (going_on (OpenSent timer) t Notification)) (going_end (OpenSent timer) t octets Notification wants turn goes goes.routes) (h.0, h.1, h.2)
going_held config T (OpenSent timer) routes t octets Keepalive wants turn hears goes h =
    at_end config (told_by_message (fsm_of (OpenSent timer)) T octets) (OpenSent timer) routes turn (enters (going_on (OpenSent timer) t Keepalive)) (going_end (OpenSent timer) t octets Keepalive wants turn goes goes.routes) (h.0, h.1, h.2)
going_held config T (OpenSent timer) routes t octets Update wants turn hears goes h =
    at_end config (told_by_message (fsm_of (OpenSent timer)) T octets) (OpenSent timer) routes turn (enters (going_on (OpenSent timer) t Update)) (going_end (OpenSent timer) t octets Update wants turn goes goes.routes) (h.0, h.1, h.2)
going_held config T (OpenConfirm link timer) routes t octets TooShort wants turn hears goes h =
    at_end config (told_by_message (fsm_of (OpenConfirm link timer)) T octets) (OpenConfirm link timer) routes turn (enters (going_on (OpenConfirm link timer) t TooShort)) (going_end (OpenConfirm link timer) t octets TooShort wants turn goes goes.routes) h
going_held config T (OpenConfirm link timer) routes t octets (ValidOpen l e) wants turn hears goes h =
    at_end config (told_by_message (fsm_of (OpenConfirm link timer)) T octets) (OpenConfirm link timer) routes turn (enters (going_on (OpenConfirm link timer) t (ValidOpen l e))) (going_end (OpenConfirm link timer) t octets (ValidOpen l e) wants turn goes goes.routes) h
going_held config T (OpenConfirm link timer) routes t octets (FaultyHeader f) wants turn hears goes h =
    at_end config (told_by_message (fsm_of (OpenConfirm link timer)) T octets) (OpenConfirm link timer) routes turn (enters (going_on (OpenConfirm link timer) t (FaultyHeader f))) (going_end (OpenConfirm link timer) t octets (FaultyHeader f) wants turn goes goes.routes) h
going_held config T (OpenConfirm link timer) routes t octets (InvalidOpen e) wants turn hears goes h =
    at_end config (told_by_message (fsm_of (OpenConfirm link timer)) T octets) (OpenConfirm link timer) routes turn (enters (going_on (OpenConfirm link timer) t (InvalidOpen e))) (going_end (OpenConfirm link timer) t octets (InvalidOpen e) wants turn goes goes.routes) h
going_held config T (OpenConfirm link timer) routes t octets BadVersion wants turn hears goes h =
    at_end config (told_by_message (fsm_of (OpenConfirm link timer)) T octets) (OpenConfirm link timer) routes turn (enters (going_on (OpenConfirm link timer) t BadVersion)) (going_end (OpenConfirm link timer) t octets BadVersion wants turn goes goes.routes) h
going_held config T (OpenConfirm link timer) routes t octets Notification wants turn hears goes h =
    at_end config (told_by_message (fsm_of (OpenConfirm link timer)) T octets) (OpenConfirm link timer) routes turn (enters (going_on (OpenConfirm link timer) t Notification)) (going_end (OpenConfirm link timer) t octets Notification wants turn goes goes.routes) h
going_held config T (OpenConfirm link timer) routes t octets Keepalive wants turn hears goes h =
    at_end config (told_by_message (fsm_of (OpenConfirm link timer)) T octets) (OpenConfirm link timer) routes turn (enters (going_on (OpenConfirm link timer) t Keepalive)) (going_end (OpenConfirm link timer) t octets Keepalive wants turn goes goes.routes) (refl, h.3, new_table config T routes h.1 h.2)
going_held config T (OpenConfirm link timer) routes t octets Update wants turn hears goes h =
    at_end config (told_by_message (fsm_of (OpenConfirm link timer)) T octets) (OpenConfirm link timer) routes turn (enters (going_on (OpenConfirm link timer) t Update)) (going_end (OpenConfirm link timer) t octets Update wants turn goes goes.routes) h
going_held config T (Established link timer) routes t octets TooShort wants turn hears goes h =
    at_end config (told_by_message (fsm_of (Established link timer)) T octets) (Established link timer) routes turn (enters (going_on (Established link timer) t TooShort)) (going_end (Established link timer) t octets TooShort wants turn goes goes.routes) (h.0, h.1, passed_over config T octets routes (no_update config octets TooShort hears (λ z. cc)) h.2)
going_held config T (Established link timer) routes t octets (ValidOpen l e) wants turn hears goes h =
    at_end config (told_by_message (fsm_of (Established link timer)) T octets) (Established link timer) routes turn (enters (going_on (Established link timer) t (ValidOpen l e))) (going_end (Established link timer) t octets (ValidOpen l e) wants turn goes goes.routes) (h.0, h.1, passed_over config T octets routes (no_update config octets (ValidOpen l e) hears (λ z. cc)) h.2)
going_held config T (Established link timer) routes t octets (FaultyHeader f) wants turn hears goes h =
    at_end config (told_by_message (fsm_of (Established link timer)) T octets) (Established link timer) routes turn (enters (going_on (Established link timer) t (FaultyHeader f))) (going_end (Established link timer) t octets (FaultyHeader f) wants turn goes goes.routes) (h.0, h.1, passed_over config T octets routes (no_update config octets (FaultyHeader f) hears (λ z. cc)) h.2)
going_held config T (Established link timer) routes t octets (InvalidOpen e) wants turn hears goes h =
    at_end config (told_by_message (fsm_of (Established link timer)) T octets) (Established link timer) routes turn (enters (going_on (Established link timer) t (InvalidOpen e))) (going_end (Established link timer) t octets (InvalidOpen e) wants turn goes goes.routes) (h.0, h.1, passed_over config T octets routes (no_update config octets (InvalidOpen e) hears (λ z. cc)) h.2)
going_held config T (Established link timer) routes t octets BadVersion wants turn hears goes h =
    at_end config (told_by_message (fsm_of (Established link timer)) T octets) (Established link timer) routes turn (enters (going_on (Established link timer) t BadVersion)) (going_end (Established link timer) t octets BadVersion wants turn goes goes.routes) (h.0, h.1, passed_over config T octets routes (no_update config octets BadVersion hears (λ z. cc)) h.2)
going_held config T (Established link timer) routes t octets Notification wants turn hears goes h =
    at_end config (told_by_message (fsm_of (Established link timer)) T octets) (Established link timer) routes turn (enters (going_on (Established link timer) t Notification)) (going_end (Established link timer) t octets Notification wants turn goes goes.routes) (h.0, h.1, passed_over config T octets routes (no_update config octets Notification hears (λ z. cc)) h.2)
going_held config T (Established link timer) routes t octets Keepalive wants turn hears goes h =
    at_end config (told_by_message (fsm_of (Established link timer)) T octets) (Established link timer) routes turn (enters (going_on (Established link timer) t Keepalive)) (going_end (Established link timer) t octets Keepalive wants turn goes goes.routes) (h.0, h.1, passed_over config T octets routes (no_update config octets Keepalive hears (λ z. cc)) h.2)
going_held config T (Established link timer) routes t octets Update wants turn hears goes h =
    let k = goes.routes in
    at_end config (record T { received = T.received ++ octets ∷ [] }) (Established link timer) routes turn
    (record { head = Established link (renewed timer t); routes = Given k.0 k.1 }) (λ i. record { head = goes.head_after i; routes = k.3 i })
    (h.0, h.1, update_applied config T octets routes k.0 k.1 hears (subst (λ (l : Link). IsOutcome l octets (Applied k.0 k.1)) h.1 k.2) h.2)

-- ---- steps and runs

received_held : (config : Config) (T : Told) (head : Head) (routes : Routes) (t : ℕ) (octets : List ℕ) (wants : List Want) (turn : Turn)
    → Row head config t (steps.Received octets) wants turn → Held config T head routes
    → Held config (shown_by (told_by_message T.fsm T octets) (changed (fsm_of head) (fsm_of turn.head))) turn.head (routes_by turn.routes routes)
received_held config T head routes t octets wants turn row h =
    subst (λ (f : Fsm). Held config (shown_by (told_by_message f T octets) (changed (fsm_of head) (fsm_of turn.head))) turn.head (routes_by turn.routes routes))
    (sym (name_held config T head routes h))
    (elim (shape_received head t octets row.0 row.1 wants turn row.3) [
      | inl falling ↦ falling_held config T head routes octets wants turn falling h
      | inr goes ↦ going_held config T head routes t octets row.0 wants turn row.2 goes h
    ])

-- where a step ends
at_after : (config : Config) (T : Told) (s after : SessionState) (event : Event) (turn : Turn) → after ≡ moved s turn
    → Held config (shown_by T (change_of event (fsm_of s.head) (fsm_of turn.head))) turn.head (routes_by turn.routes s.routes)
    → Held config (shown_by T (change_of event (fsm_of s.head) (fsm_of after.head))) after.head after.routes
at_after config T s after event turn e h =
    subst (λ (x : SessionState). Held config (shown_by T (change_of event (fsm_of s.head) (fsm_of x.head))) x.head x.routes) (sym e) h

step_held : (config : Config) (T : Told) (s after : SessionState) (t : ℕ) (event : Event) (wants : List Want) (shown : List ShownRecord)
    → Step config s t event wants after → Shows config (link_at s.head) event t wants (change_of event (fsm_of s.head) (fsm_of after.head)) shown
    → Held config T s.head s.routes → Held config (told_from T shown) after.head after.routes
step_held config T s after t (Hidden row) wants [] step shows h =
    subst (λ (x : Told). Held config x after.head after.routes) (sym (pays_told config (link_at s.head) wants _ [] T shows))
    (at_after config T s after (Hidden row) step.0 step.2 (hidden_held config T s.head s.routes t row wants step.0 step.1 h))
step_held config T s after t (Hidden row) wants (r ∷ rs) step shows h =
    subst (λ (x : Told). Held config x after.head after.routes) (sym (pays_told config (link_at s.head) wants _ (r ∷ rs) T shows.1))
    (at_after config T s after (Hidden row) step.0 step.2 (hidden_held config T s.head s.routes t row wants step.0 step.1 h))
step_held config T s after t (steps.Received octets) wants [] step shows h = absurd shows
step_held config T s after t (steps.Received octets) wants (r ∷ rs) step shows h =
    let told_after = ap (λ (x : ShownRecord). told_from (told_next T x) rs) shows.0
    ∙ pays_told config (link_at s.head) wants _ rs (told_by_message T.fsm T octets) shows.1 in
    subst (λ (x : Told). Held config x after.head after.routes) (sym told_after)
    (at_after config (told_by_message T.fsm T octets) s after (steps.Received octets) step.0 step.2
    (received_held config T s.head s.routes t octets wants step.0 step.1 h))

steps_held : (config : Config) (T : Told) (s : SessionState) (xs : List Taken) (e : SessionState) → AreSteps config s xs e
    → Held config T s.head s.routes → Held config (told_from T (records_of xs)) e.head e.routes
steps_held config T s [] e same h = subst (λ (x : SessionState). Held config T x.head x.routes) same h
steps_held config T s (x ∷ xs) e are h =
    subst (λ (t : Told). Held config t e.head e.routes) (sym (told_joined T x.shown (records_of xs)))
    (steps_held config (told_from T x.shown) x.after xs e are.2
    (step_held config T x.before x.after x.second x.event x.wants x.shown are.1.step are.1.shows
    (subst (λ (v : SessionState). Held config T v.head v.routes) (sym are.0) h)))

run_held : (config : Config) (records : List ShownRecord) (e : SessionState) → Run config fresh_state records e
    → Held config (told records) e.head e.routes
run_held config records e run =
    subst (λ (rs : List ShownRecord). Held config (told rs) e.head e.routes) run.shows
    (steps_held config fresh_told fresh_state run.steps e run.are_steps (refl, refl, refl))

-- ---- what that says

one_link : (l link : Link) → Some link ≡ Some l → l ≡ link
one_link l link e = cc

no_link : (link : Link) → None ≡ Some link → ⊥
no_link link e = cc

as_told : (config : Config) (T : Told) (head : Head) (routes : Routes) → Held config T head routes → IsAsTold config T (record { head = head; routes = routes })
as_told config T Idle routes h = record { fsm = sym h.0; link = λ l e. absurd (no_link l e); routes = λ up. absurd (let k = sym h.0 ∙ up in cc); none = λ other. h.1 }
as_told config T (Connect delay) routes h = record { fsm = sym h.0; link = λ l e. absurd (no_link l e); routes = λ up. absurd (let k = sym h.0 ∙ up in cc); none = λ other. h.1 }
as_told config T (Active delay) routes h = record { fsm = sym h.0; link = λ l e. absurd (no_link l e); routes = λ up. absurd (let k = sym h.0 ∙ up in cc); none = λ other. h.1 }
as_told config T (OpenSent timer) routes h = record { fsm = sym h.0; link = λ l e. absurd (no_link l e); routes = λ up. absurd (let k = sym h.0 ∙ up in cc); none = λ other. h.1 }
as_told config T (OpenConfirm link timer) routes h =
    record { fsm = sym h.0; link = λ l e. one_link l link e ∙ h.3; routes = λ up. absurd (let k = sym h.0 ∙ up in cc); none = λ other. h.1 }
as_told config T (Established link timer) routes h =
    record { fsm = sym h.0; link = λ l e. one_link l link e ∙ h.1; routes = λ up. h.2; none = λ other. absurd (other h.0) }

pub each_as_told : EachRunIsAsTold
each_as_told config records e run = as_told config (told records) e.head e.routes (run_held config records e run)

-- ---- one table, one end

one_next : (config : Config) (link : Link) (octets : List ℕ) (table next other : Routes) → IsTableNext config link octets table next → IsTableNext config link octets table other → next ≡ other
one_next config link octets table next other (inl a) (inl b) =
    a.4 ∙ ap (λ (c : RouteChanges). routes_after c table) (one_change link octets a.1 b.1 a.2 b.2 a.3 b.3) ∙ sym b.4
one_next config link octets table next other (inl a) (inr b) = absurd (b.0 a.0)
one_next config link octets table next other (inr a) (inl b) = absurd (a.0 b.0)
one_next config link octets table next other (inr a) (inr b) = a.1 ∙ sym b.1

one_after : (config : Config) (link : Link) (table : Routes) (messages : List (List ℕ)) (last other : Routes) → IsTableAfter config link table messages last
    → IsTableAfter config link table messages other → last ≡ other
one_after config link table [] last other a b = a ∙ sym b
one_after config link table (m ∷ messages) last other a b =
    one_after config link a.0 messages last other a.2
    (subst (λ (v : Routes). IsTableAfter config link v messages other) (one_next config link m table b.0 a.0 b.1 a.1) b.2)

pub one_table : HasOneTable
one_table config link messages table other a b = one_after config link no_routes messages table other a b

same_routes : (config : Config) (T : Told) (f : Fsm) (a b : SessionState) → T.fsm ≡ f → IsAsTold config T a → IsAsTold config T b
    → a.routes.disabled ≡ b.routes.disabled → a.routes ≡ b.routes
same_routes config T fsms.Established a b up one other same =
    let x = one.routes up in
    let y = other.routes up in
    x.2 ∙ ap (λ (f : Families). routes_without f x.0) same
    ∙ ap (λ (v : Routes). routes_without b.routes.disabled v) (one_table config (link_told config T) T.received x.0 y.0 x.1 y.1) ∙ sym y.2
same_routes config T fsms.Idle a b is one other same =
    one.none (λ up. let k = sym is ∙ up in cc) ∙ sym (other.none (λ up. let k = sym is ∙ up in cc))
same_routes config T fsms.Connect a b is one other same =
    one.none (λ up. let k = sym is ∙ up in cc) ∙ sym (other.none (λ up. let k = sym is ∙ up in cc))
same_routes config T fsms.Active a b is one other same =
    one.none (λ up. let k = sym is ∙ up in cc) ∙ sym (other.none (λ up. let k = sym is ∙ up in cc))
same_routes config T fsms.OpenSent a b is one other same =
    one.none (λ up. let k = sym is ∙ up in cc) ∙ sym (other.none (λ up. let k = sym is ∙ up in cc))
same_routes config T fsms.OpenConfirm a b is one other same =
    one.none (λ up. let k = sym is ∙ up in cc) ∙ sym (other.none (λ up. let k = sym is ∙ up in cc))

pub one_end : HasOneEnd
one_end config records one other a b same =
    let x = each_as_told config records a.0 a.1 in
    let y = each_as_told config records b.0 b.1 in
    let disabled = ap (λ (e : End). e.routes.disabled) a.2 ∙ same ∙ sym (ap (λ (e : End). e.routes.disabled) b.2) in
    let routes = same_routes config (told records) (told records).fsm a.0 b.0 refl x y disabled in
    let name = x.fsm ∙ sym y.fsm in
    sym a.2 ∙ (λ i. record { fsm = name i; routes = routes i }) ∙ b.2
