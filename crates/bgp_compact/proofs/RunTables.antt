-- Each run ends with the table that its records make.
use Rattle.std.proofs.Common.{◌≡◌, ◌⊎◌, inl, inr, ℕ, List, [], ◌∷◌, ◌++◌, Option, None, Some, refl, sym, ap, subst, ◌∙◌}
use Rattle.bgp_prefix.specs.Shown.{ShownRecord, Received, Sent, Changed}
use Rattle.bgp_open.specs.declared.config.Config.{Config}
use Rattle.bgp_open.specs.declared.link.Link.{Link}
use Rattle.bgp_machine.specs.declared.fsm.Fsm.{Fsm}
use Rattle.bgp_machine.specs.declared.fsm.Fsm.TheVariants as fsms
use Rattle.bgp_machine.specs.declared.rows.HiddenRow.{HiddenRow}
use Rattle.bgp_machine.specs.declared.rows.HiddenRow.TheVariants.{Notes}
use Rattle.bgp_machine.specs.declared.state.Head.{Head}
use Rattle.bgp_machine.specs.declared.want.Want.{Want}
use Rattle.bgp_machine.specs.Going.{fsm_at, going_on, shown_after}
use Rattle.bgp_machine.specs.Run.{AreSteps, IsTaken, Taken, records_of}
use Rattle.bgp_machine.specs.Shows.{PaysAll, Shows}
use Rattle.bgp_machine.specs.State.{SessionState, Turn, fresh_state, fsm_of, link_at}
use Rattle.bgp_machine.specs.Step.{Event, Hidden, Row, Step, change_of, changed, hidden_change}
use Rattle.bgp_machine.specs.Step as steps
use Rattle.bgp_machine.proofs.Moves.{without_no_family}
use Rattle.bgp_machine.proofs.Shapes.{shape_received}
use Rattle.bgp_rib.specs.Routes.{Routes, no_routes, routes_after, routes_without}
use Rattle.bgp_judge.specs.Told.{Told, IsTableAfter, IsTableNext, fresh_told, link_told, told, told_by_change, told_by_message, told_from, told_next}
use Rattle.bgp_judge.proofs.Telling.{each_as_told}
use Rattle.bgp_compact.specs.Table.{EachRunEndsWithTheTable, IsTableBehind, IsTableByMessage, IsTableChanged, IsTableFrom, table_by_change}
use Rattle.bgp_compact.proofs.Making.{fsm_next, up_or_not}
use Rattle.bgp_compact.proofs.PartPaid.{at_number}
use Rattle.bgp_compact.proofs.Rows.{hidden_stays}
use Rattle.bgp_compact.proofs.Ways.{falling_down, on_up, up_head, up_link}

-- ---- which states the records of a run tell

-- from Established, Idle alone is told
abbrev LeavesToIdle : Fsm → Fsm → Type 0
LeavesToIdle old new = old ≡ fsms.Established → (new ≡ fsms.Idle) ⊎ (new ≡ fsms.Established)

abbrev TellsSo : Told → List ShownRecord → Type 0
TellsSo t [] = Unit {0}
TellsSo t (r ∷ records) = LeavesToIdle t.fsm (told_next t r).fsm × TellsSo (told_next t r) records

tells_joined : (t : Told) (xs ys : List ShownRecord) → TellsSo t xs → TellsSo (told_from t xs) ys → TellsSo t (xs ++ ys)
tells_joined t [] ys first others = others
tells_joined t (x ∷ xs) ys first others = (first.0, tells_joined (told_next t x) xs ys first.1 others)

-- the state that a change leads to
abbrev state_by : Fsm → Option (Fsm × Fsm) → Fsm
state_by f None = f
state_by f (Some c) = c.1

by_changed : (a b : Fsm) → state_by a (changed a b) ≡ b
by_changed fsms.Idle fsms.Idle = refl
by_changed fsms.Connect fsms.Connect = refl
by_changed fsms.Active fsms.Active = refl
by_changed fsms.OpenSent fsms.OpenSent = refl
by_changed fsms.OpenConfirm fsms.OpenConfirm = refl
by_changed fsms.Established fsms.Established = refl
by_changed a b = refl

by_hidden : (row : HiddenRow) (a b : Fsm) → state_by a (hidden_change row a b) ≡ b
by_hidden Notes a b = refl
by_hidden row a b = by_changed a b

abbrev TellsAndLeads : Told → List ShownRecord → Fsm → Type 0
TellsAndLeads t records last = TellsSo t records × ((told_from t records).fsm ≡ last)

stays : (old new : Fsm) → new ≡ old → LeavesToIdle old new
stays old new same up = inr (same ∙ up)

pays_so : (config : Config) (link : Option Link) (wants : List Want) (change : Option (Fsm × Fsm)) (rs : List ShownRecord) (t : Told)
    → PaysAll config link wants change rs → LeavesToIdle t.fsm (state_by t.fsm change) → TellsAndLeads t rs (state_by t.fsm change)
pays_so config link wants change [] t pays leaves = (tt, sym (ap (state_by t.fsm) pays.1))
pays_so config link wants change (Received u octets ∷ rs) t pays leaves = absurd pays.2
pays_so config link [] change (Sent u octets ∷ rs) t pays leaves = absurd pays.2
pays_so config link (want ∷ wants) change (Sent u octets ∷ rs) t pays leaves =
    let same : pays.1 ≡ change = pays.2.2 in
    let k = pays_so config link pays.0 pays.1 rs t pays.3 (subst (λ (c : Option (Fsm × Fsm)). LeavesToIdle t.fsm (state_by t.fsm c)) (sym same) leaves) in
    ((stays t.fsm t.fsm refl, k.0), k.1 ∙ ap (state_by t.fsm) same)
pays_so config link wants None (Changed u x y ∷ rs) t pays leaves = absurd pays.2
pays_so config link wants (Some c) (Changed u x y ∷ rs) t pays leaves =
    let t2 : Told = told_next t (Changed u x y) in
    let is : t2.fsm ≡ c.1 = fsm_next t (Changed u x y) ∙ ap (λ (o : Option Fsm). shown_after t.fsm o) (ap fsm_at pays.2.1 ∙ at_number c.1) in
    let left : state_by t2.fsm pays.1 ≡ t2.fsm = ap (state_by t2.fsm) pays.2.3 in
    let k = pays_so config link pays.0 pays.1 rs t2 pays.3 (stays t2.fsm (state_by t2.fsm pays.1) left) in
    ((subst (λ (f : Fsm). LeavesToIdle t.fsm f) (sym is) leaves, k.0), k.1 ∙ left ∙ is)

paid_so : (config : Config) (link : Option Link) (wants : List Want) (change : Option (Fsm × Fsm)) (old new : Fsm) (rs : List ShownRecord) (t : Told)
    → PaysAll config link wants change rs → t.fsm ≡ old → state_by old change ≡ new → LeavesToIdle old new → TellsAndLeads t rs new
paid_so config link wants change old new rs t pays same by leaves =
    let e : state_by t.fsm change ≡ new = ap (λ (f : Fsm). state_by f change) same ∙ by in
    let k = pays_so config link wants change rs t pays (λ up. subst (λ (f : Fsm). (f ≡ fsms.Idle) ⊎ (f ≡ fsms.Established)) (sym e) (leaves (sym same ∙ up))) in
    (k.0, k.1 ∙ e)

shows_so : (config : Config) (link : Option Link) (event : Event) (u : ℕ) (wants : List Want) (old new : Fsm) (rs : List ShownRecord) (t : Told)
    → Shows config link event u wants (change_of event old new) rs → t.fsm ≡ old → LeavesToIdle old new → TellsAndLeads t rs new
shows_so config link (Hidden row) u wants old new [] t shows same leaves =
    paid_so config link wants (hidden_change row old new) old new [] t shows same (by_hidden row old new) leaves
shows_so config link (Hidden row) u wants old new (r ∷ rs) t shows same leaves =
    paid_so config link wants (hidden_change row old new) old new (r ∷ rs) t shows.1 same (by_hidden row old new) leaves
shows_so config link (steps.Received octets) u wants old new [] t shows same leaves = absurd shows
shows_so config link (steps.Received octets) u wants old new (r ∷ rs) t shows same leaves =
    let is : (told_next t r).fsm ≡ t.fsm = ap (λ (x : ShownRecord). (told_next t x).fsm) shows.0 ∙ fsm_next t (Received u octets) in
    let k = paid_so config link wants (changed old new) old new rs (told_next t r) shows.1 (is ∙ same) (by_changed old new) leaves in
    ((stays t.fsm (told_next t r).fsm is, k.0), k.1)

-- ---- a step leaves Established for Idle alone

row_leaves : (head : Head) (config : Config) (t : ℕ) (event : Event) (wants : List Want) (turn : Turn) → Row head config t event wants turn
    → LeavesToIdle (fsm_of head) (fsm_of turn.head)
row_leaves head config t (Hidden row) wants turn is up = elim (hidden_stays head config t row wants turn (up_link head up) is) [
  | inl e ↦ inl (ap (λ (v : Turn). fsm_of v.head) e)
  | inr e ↦ inr (ap (λ (v : Turn). fsm_of v.head) e ∙ up)
]
row_leaves head config t (steps.Received octets) wants turn is up = elim (shape_received head t octets is.0 is.1 wants turn is.3) [
  | inl falling ↦ inl (falling_down head wants turn falling)
  | inr goes ↦
      let k = up_head head up in
      inr (ap fsm_of (goes.head_after ∙ ap (λ (v : Head). going_on v t is.0) k.2) ∙ on_up k.0 k.1 t is.0)
]

step_leaves : (config : Config) (s after : SessionState) (t : ℕ) (event : Event) (wants : List Want) → Step config s t event wants after
    → LeavesToIdle (fsm_of s.head) (fsm_of after.head)
step_leaves config s after t event wants step =
    subst (λ (v : SessionState). LeavesToIdle (fsm_of s.head) (fsm_of v.head)) (sym step.2) (row_leaves s.head config t event wants step.0 step.1)

taken_so : (config : Config) (x : Taken) (t : Told) → IsTaken config x → t.fsm ≡ fsm_of x.before.head → TellsAndLeads t x.shown (fsm_of x.after.head)
taken_so config x t is same =
    shows_so config (link_at x.before.head) x.event x.second x.wants (fsm_of x.before.head) (fsm_of x.after.head) x.shown t is.shows same
    (step_leaves config x.before x.after x.second x.event x.wants is.step)

steps_tell : (config : Config) (t : Told) (s : SessionState) (xs : List Taken) (e : SessionState) → AreSteps config s xs e → t.fsm ≡ fsm_of s.head
    → TellsSo t (records_of xs)
steps_tell config t s [] e are same = tt
steps_tell config t s (x ∷ xs) e are same =
    let k = taken_so config x t are.1 (same ∙ ap (λ (v : SessionState). fsm_of v.head) (sym are.0)) in
    tells_joined t x.shown (records_of xs) k.0 (steps_tell config (told_from t x.shown) x.after xs e are.2 k.1)

-- ---- how the table stands to what was told: it is the one that the messages make, if they make any

record Agrees (config : Config) (t : Told) (table : Routes) : Type 0 where
  pub up : t.fsm ≡ fsms.Established → (other : Routes) → IsTableAfter config (link_told config t) no_routes t.received other → other ≡ table
  pub down : (t.fsm ≡ fsms.Established → ⊥) → (table ≡ no_routes) × (t.received ≡ [])

last_message : (config : Config) (link : Link) (table : Routes) (messages : List (List ℕ)) (octets : List ℕ) (last : Routes) → IsTableAfter config link table (messages ++ octets ∷ []) last
    → (mid : Routes) × IsTableAfter config link table messages mid × IsTableNext config link octets mid last
last_message config link table [] octets last after = (table, refl, subst (λ (v : Routes). IsTableNext config link octets table v) (sym after.2) after.1)
last_message config link table (m ∷ messages) octets last after =
    let k = last_message config link after.0 messages octets last after.2 in (k.0, (after.0, after.1, k.1), k.2)

same_next : (config : Config) (link : Link) (octets : List ℕ) (mid other table next : Routes) → IsTableNext config link octets mid other → mid ≡ table → IsTableChanged config link octets table next
    → other ≡ next
same_next config link octets mid other table next (inl k) same changes =
    k.4 ∙ ap (λ (v : Routes). routes_after k.1 v) same ∙ sym (changes.applied k.1 (k.0, k.2, k.3))
same_next config link octets mid other table next (inr k) same changes = k.1 ∙ same ∙ sym (changes.kept (λ c may. k.0 may.0))

heard_so : (config : Config) (t : Told) (f : Fsm) (octets : List ℕ) (table next : Routes) → t.fsm ≡ f → IsTableByMessage config f (link_told config t) octets table next
    → Agrees config t table → Agrees config (told_by_message f t octets) next
heard_so config t fsms.Idle octets table next e is so =
    let k = so.down (λ up. let z = sym e ∙ up in cc) in
    record { up = λ up. absurd (let z = sym e ∙ up in cc); down = λ not. (is ∙ k.0, k.1) }
heard_so config t fsms.Connect octets table next e is so =
    let k = so.down (λ up. let z = sym e ∙ up in cc) in
    record { up = λ up. absurd (let z = sym e ∙ up in cc); down = λ not. (is ∙ k.0, k.1) }
heard_so config t fsms.Active octets table next e is so =
    let k = so.down (λ up. let z = sym e ∙ up in cc) in
    record { up = λ up. absurd (let z = sym e ∙ up in cc); down = λ not. (is ∙ k.0, k.1) }
heard_so config t fsms.OpenSent octets table next e is so =
    let k = so.down (λ up. let z = sym e ∙ up in cc) in
    record { up = λ up. absurd (let z = sym e ∙ up in cc); down = λ not. (is ∙ k.0, k.1) }
heard_so config t fsms.OpenConfirm octets table next e is so = subst (λ (v : Routes). Agrees config t v) (sym is) so
heard_so config t fsms.Established octets table next e is so = record {
  up = λ up other after.
      let k = last_message config (link_told config t) no_routes t.received octets other after in
      same_next config (link_told config t) octets k.0 other table next k.2 (so.up e k.0 k.1) is;
  down = λ not. absurd (not e);
}

-- a change to another state than Idle
moved_so : (config : Config) (t : Told) (f : Fsm) (table : Routes) → (f ≡ fsms.Idle → ⊥) → LeavesToIdle t.fsm f → Agrees config t table
    → Agrees config (record t { fsm = f }) table
moved_so config t f table busy leaves so = elim (up_or_not t.fsm) [
  | inl was ↦ record {
    up = λ up. so.up was;
    down = λ not. elim (leaves was) [ inl idle ↦ absurd (busy idle) | inr up ↦ absurd (not up) ];
  }
  | inr was ↦
      let k = so.down was in
      record {
        up = λ up other after.
            let e : other ≡ no_routes = subst (λ (ms : List (List ℕ)). IsTableAfter config (link_told config t) no_routes ms other) k.1 after in
            e ∙ sym k.0;
        down = λ not. k;
      }
]

change_so : (config : Config) (t : Told) (change : Option Fsm) (table : Routes) → LeavesToIdle t.fsm (told_by_change change t).fsm → Agrees config t table
    → Agrees config (told_by_change change t) (table_by_change change table)
change_so config t None table leaves so = so
change_so config t (Some fsms.Idle) table leaves so = record { up = λ up. absurd (let k : ⊥ = cc in k); down = λ not. (refl, refl) }
change_so config t (Some fsms.Connect) table leaves so = moved_so config t fsms.Connect table (λ z. cc) leaves so
change_so config t (Some fsms.Active) table leaves so = moved_so config t fsms.Active table (λ z. cc) leaves so
change_so config t (Some fsms.OpenSent) table leaves so = moved_so config t fsms.OpenSent table (λ z. cc) leaves so
change_so config t (Some fsms.OpenConfirm) table leaves so = moved_so config t fsms.OpenConfirm table (λ z. cc) leaves so
change_so config t (Some fsms.Established) table leaves so = moved_so config t fsms.Established table (λ z. cc) leaves so

behind_so : (config : Config) (t : Told) (r : ShownRecord) (table next : Routes) → IsTableBehind config t r table next → LeavesToIdle t.fsm (told_next t r).fsm
    → Agrees config t table → Agrees config (told_next t r) next
behind_so config t (Received u octets) table next is leaves so = heard_so config t t.fsm octets table next refl is so
behind_so config t (Sent u octets) table next is leaves so = subst (λ (v : Routes). Agrees config t v) (sym is) so
behind_so config t (Changed u x y) table next is leaves so =
    subst (λ (v : Routes). Agrees config (told_by_change (fsm_at y) t) v) (sym is) (change_so config t (fsm_at y) table leaves so)

from_so : (config : Config) (t : Told) (table : Routes) (records : List ShownRecord) (last : Routes) → IsTableFrom config t table records last → TellsSo t records
    → Agrees config t table → Agrees config (told_from t records) last
from_so config t table [] last from tells so = subst (λ (v : Routes). Agrees config t v) (sym from) so
from_so config t table (r ∷ records) last from tells so =
    from_so config (told_next t r) from.0 records last from.2 tells.1 (behind_so config t r table from.0 from.1 tells.0 so)

fresh_so : (config : Config) → Agrees config fresh_told no_routes
fresh_so config = record { up = λ up. absurd (let k : ⊥ = cc in k); down = λ not. (refl, refl) }

-- ---- the end

both_none : (routes table : Routes) → routes ≡ no_routes → table ≡ no_routes → routes ≡ routes_without routes.disabled table
both_none routes table none empty =
    none ∙ sym (without_no_family no_routes) ∙ sym (ap (λ (v : Routes). routes_without v.disabled table) none ∙ ap (λ (v : Routes). routes_without no_routes.disabled v) empty)

pub each_ends : EachRunEndsWithTheTable
each_ends config records table e made run =
    let tells : TellsSo fresh_told records = subst (λ (rs : List ShownRecord). TellsSo fresh_told rs) run.shows
    (steps_tell config fresh_told fresh_state run.steps e run.are_steps refl) in
    let so = from_so config fresh_told no_routes records table made tells (fresh_so config) in
    let as_told = each_as_told config records e run in
    elim (up_or_not (told records).fsm) [
      | inl up ↦
          let k = as_told.routes up in
          k.2 ∙ ap (λ (v : Routes). routes_without e.routes.disabled v) (so.up up k.0 k.1)
      | inr down ↦ both_none e.routes table (as_told.none down) (so.down down).0
    ]
