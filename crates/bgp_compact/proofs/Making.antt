-- The table follows the records: it is the one that they make.
use Rattle.std.proofs.Common.{◌≡◌, ◌⊎◌, inl, inr, ℕ, List, [], ◌∷◌, ◌++◌, Option, None, Some, refl, sym, ap, subst, ◌∙◌, append-nil}
use Rattle.std.specs.Prelude.{IsSome}
use Rattle.bgp_prefix.specs.Shown.{ShownRecord, Received, Sent, Changed}
use Rattle.bgp_open.specs.declared.config.Config.{Config}
use Rattle.bgp_open.specs.declared.families.Families.{Families}
use Rattle.bgp_open.specs.declared.link.Link.{Link}
use Rattle.bgp_update.specs.declared.outcomes.Changes.{Changes}
use Rattle.bgp_update.specs.Changes.{RouteChanges}
use Rattle.bgp_update.specs.Outcome.{IsOutcome, Applied}
use Rattle.bgp_machine.specs.declared.fsm.Fsm.{Fsm}
use Rattle.bgp_machine.specs.declared.fsm.Fsm.TheVariants as fsms
use Rattle.bgp_machine.specs.declared.state.Head.{Head}
use Rattle.bgp_machine.specs.declared.state.Head.TheVariants.{Established}
use Rattle.bgp_machine.specs.declared.state.HoldTimer.{HoldTimer}
use Rattle.bgp_machine.specs.declared.hearing.Heard.{Heard}
use Rattle.bgp_machine.specs.declared.hearing.Heard.TheVariants as heard
use Rattle.bgp_machine.specs.declared.rows.ReceivedRow.TheVariants.{Applies}
use Rattle.bgp_machine.specs.declared.step.Routes.{Routes as RoutesOfStep}
use Rattle.bgp_machine.specs.declared.step.Routes.TheVariants as routes
use Rattle.bgp_machine.specs.declared.step.Step.{Step}
use Rattle.bgp_machine.specs.declared.want.Want.{Want}
use Rattle.bgp_machine.specs.Going.{GoOnWith, fsm_at, shown_after}
use Rattle.bgp_machine.specs.Going as going
use Rattle.bgp_machine.specs.Heard.{Hears}
use Rattle.bgp_machine.specs.Listed.{IsStep, MakesChanges, changes_of, no_changes, routes_turn, turn_of}
use Rattle.bgp_machine.specs.Lists.{Has}
use Rattle.bgp_machine.specs.Run.{End, IsComplete, Run, end_of}
use Rattle.bgp_machine.specs.State.{RoutesTurn, Turn, Kept, Cleared, Given, fresh_state, fsm_of, link_at, renewed}
use Rattle.bgp_machine.specs.Want.{wants_of}
use Rattle.bgp_machine.proofs.Moves.{after_no_changes}
use Rattle.bgp_machine.proofs.Shapes.{shape_received}
use Rattle.bgp_rib.specs.Routes.{Routes, no_routes, routes_after}
use Rattle.bgp_judge.specs.Member.{Member, IsFree}
use Rattle.bgp_judge.specs.Next.{Continues, Next, Opens}
use Rattle.bgp_judge.specs.Openings.{ListsOpenings}
use Rattle.bgp_judge.specs.Stands.{StandFor}
use Rattle.bgp_judge.specs.Told.{Told, link_told, told, told_by_change, told_by_message, told_next, told_from}
use Rattle.bgp_machine.proofs.JoinedRuns.{no_steps}
use Rattle.bgp_judge.proofs.OneRecordMore.{runs_free}
use Rattle.bgp_judge.proofs.Standing.{silent_end}
use Rattle.bgp_judge.proofs.Telling.{each_as_told}
use Rattle.bgp_compact.specs.declared.base.Base.{Base}
use Rattle.bgp_compact.specs.declared.words.Words.{Words}
use Rattle.bgp_compact.specs.Members.{IsMember, fallen_member, front_member}
use Rattle.bgp_compact.specs.Members.IsMember.{Front, Fallen}
use Rattle.bgp_compact.specs.Parts.{AreFine, HasNoBase, IsBase, free_member}
use Rattle.bgp_compact.specs.Standing.{IsTableOf}
use Rattle.bgp_compact.specs.Steps.{AreMade, AreMadeAt, IsOpen, table_behind}
use Rattle.bgp_compact.specs.Table.{IsTableBehind, IsTableByMessage, IsTableChanged, IsTableFrom, MayApply, table_by_change}
use Rattle.bgp_compact.proofs.Bases.{idle_not_up}
use Rattle.bgp_compact.proofs.FallsPaid.{paid_stays}
use Rattle.bgp_compact.proofs.PartPaid.{Part, part}
use Rattle.bgp_compact.proofs.StepLoops.{has_each}
use Rattle.bgp_compact.proofs.Ways.{falling_gives, given_then, hidden_gives, leaves_up, up_head}

-- ---- one record more

pub table_more : (config : Config) (t : Told) (table mid last : Routes) (records : List ShownRecord) (r : ShownRecord) → IsTableFrom config t table records mid
    → IsTableBehind config (told_from t records) r mid last → IsTableFrom config t table (records ++ r ∷ []) last
table_more config t table mid last [] r from next = (last, subst (λ (v : Routes). IsTableBehind config t r v last) from next, refl)
table_more config t table mid last (x ∷ records) r from next = (from.0, from.1, table_more config (told_next t x) from.0 mid last records r from.2 next)

fsm_heard : (f : Fsm) (t : Told) (octets : List ℕ) → (told_by_message f t octets).fsm ≡ t.fsm
fsm_heard fsms.Idle t octets = refl
fsm_heard fsms.Connect t octets = refl
fsm_heard fsms.Active t octets = refl
fsm_heard fsms.OpenSent t octets = refl
fsm_heard fsms.OpenConfirm t octets = refl
fsm_heard fsms.Established t octets = refl

fsm_changed : (o : Option Fsm) (t : Told) → (told_by_change o t).fsm ≡ shown_after t.fsm o
fsm_changed None t = refl
fsm_changed (Some fsms.Idle) t = refl
fsm_changed (Some fsms.Connect) t = refl
fsm_changed (Some fsms.Active) t = refl
fsm_changed (Some fsms.OpenSent) t = refl
fsm_changed (Some fsms.OpenConfirm) t = refl
fsm_changed (Some fsms.Established) t = refl

pub fsm_next : (t : Told) (r : ShownRecord) → (told_next t r).fsm ≡ shown_after t.fsm (going.told r)
fsm_next t (Received u octets) = fsm_heard t.fsm t octets
fsm_next t (Sent u octets) = refl
fsm_next t (Changed u x y) = fsm_changed (fsm_at y) t

-- ---- what a free member's state says of what was told

free_run : (config : Config) (Is : Member → Type 0) (records : List ShownRecord) (m : Member) → StandFor config Is records → Is m → IsFree m → Run config fresh_state records m.state
free_run config Is records m stand is free =
    subst (λ (v : List ShownRecord). Run config fresh_state v m.state) (append-nil records)
    ((stand.goes_on [] m.state).0 (m, is, runs_free config m [] m.state free (no_steps config m.state)))

pub told_link : (config : Config) (words : Words) (table : Routes) (records : List ShownRecord) (base : Base) (link : Link) → StandFor config (IsMember words table) records
    → IsTableOf words table → IsBase words base → link_at base.head ≡ Some link → link ≡ link_told config (told records)
told_link config words table records base link stand of is e =
    let d = is.some.0 in
    (each_as_told config records (free_member base.head table d).state
    (free_run config (IsMember words table) records (free_member base.head table d) stand (is.to table of d is.some.1) (refl, refl))).link link e

-- nothing is owed where there is a base: a run ends there
pub base_ends : (config : Config) (words : Words) (table : Routes) (records : List ShownRecord) (base : Base) → StandFor config (IsMember words table) records
    → IsTableOf words table → IsBase words base → (e : End) × IsComplete config records e
base_ends config words table records base stand of is =
    let d = is.some.0 in
    let m = free_member base.head table d in
    (end_of m.state, (m.state, free_run config (IsMember words table) records m stand (is.to table of d is.some.1) (refl, refl), refl))

-- ---- which changes are made

-- an UPDATE's changes are those of an outcome
gives_outcome : (config : Config) (own : Link) (timer : HoldTimer) (octets : List ℕ) (m : Heard) (turn : RoutesTurn) (c : RouteChanges) (f : Families) → Hears config octets m
    → GoOnWith (Established own timer) octets m turn → turn ≡ Given c f → MayApply config own octets c
gives_outcome config own timer octets heard.TooShort turn c f h g e = absurd (let k : Kept ≡ Given c f = sym g ∙ e in let z : ⊥ = cc in z)
gives_outcome config own timer octets (heard.ValidOpen link x) turn c f h g e = absurd (let k : Kept ≡ Given c f = sym g ∙ e in let z : ⊥ = cc in z)
gives_outcome config own timer octets (heard.FaultyHeader x) turn c f h g e = absurd (let k : Kept ≡ Given c f = sym g ∙ e in let z : ⊥ = cc in z)
gives_outcome config own timer octets (heard.InvalidOpen x) turn c f h g e = absurd (let k : Kept ≡ Given c f = sym g ∙ e in let z : ⊥ = cc in z)
gives_outcome config own timer octets heard.BadVersion turn c f h g e = absurd (let k : Kept ≡ Given c f = sym g ∙ e in let z : ⊥ = cc in z)
gives_outcome config own timer octets heard.Notification turn c f h g e = absurd (let k : Kept ≡ Given c f = sym g ∙ e in let z : ⊥ = cc in z)
gives_outcome config own timer octets heard.Keepalive turn c f h g e = absurd (let k : Kept ≡ Given c f = sym g ∙ e in let z : ⊥ = cc in z)
gives_outcome config own timer octets heard.Update turn c f h g e =
    let same : g.0 ≡ c = (let k : Given g.0 g.1 ≡ Given c f = sym g.3 ∙ e in cc) in
    (h, g.1, subst (λ (v : RouteChanges). IsOutcome own octets (Applied v g.1)) same g.2)

pub opened_outcome : (config : Config) (own : Link) (timer : HoldTimer) (u : ℕ) (octets : List ℕ) (left : List Want) (still : Option (Fsm × Fsm)) (turn : Turn) (c : RouteChanges) (f : Families)
    → Opens config (Established own timer) (Received u octets) left still turn → turn.routes ≡ Given c f → MayApply config own octets c
opened_outcome config own timer u octets left still turn c f o e =
    elim (shape_received (Established own timer) u octets o.0.0 o.0.1 left turn o.0.3) [
      | inl x ↦ absurd (falling_gives (Established own timer) left turn c f x e)
      | inr g ↦ gives_outcome config own timer octets o.0.0 turn.routes c f o.0.2 g.routes e
    ]

outcome_opens : (config : Config) (own : Link) (timer : HoldTimer) (u : ℕ) (octets : List ℕ) (c : RouteChanges) → (may : MayApply config own octets c)
    → Opens config (Established own timer) (Received u octets) [] None (record { head = Established own (renewed timer u); routes = Given c may.1 })
outcome_opens config own timer u octets c may = ((heard.Update, Applies may.1, may.0, (c, may.2, refl, refl)), refl)

no_changes_of : {X : Type 0} (given : Option (Changes X)) → (IsSome given → ⊥) → changes_of given ≡ no_changes
no_changes_of None f = refl
no_changes_of (Some c) f = absurd (f refl)

-- a list of the steps that a record opens has the changes that any of them makes
gives_these : (changes others : RouteChanges) (turn : RoutesOfStep) (families : Families) → routes_turn changes turn ≡ Given others families → others ≡ changes
gives_these changes others routes.Kept families e = absurd (let k : Kept ≡ Given others families = e in let z : ⊥ = cc in z)
gives_these changes others routes.Cleared families e = absurd (let k : Cleared ≡ Given others families = e in let z : ⊥ = cc in z)
gives_these changes others (routes.Given f) families e = let k : Given changes f ≡ Given others families = e in cc

one_has : {X : Type 0} (P : X → Type 0) (xs : List X) → Has P xs → (x : X) × P x
one_has P [] h = absurd h
one_has P (x ∷ xs) h = elim h [ inl p ↦ (x, p) | inr q ↦ one_has P xs q ]

pub made_at : {X : Type 0} (config : Config) (head : Head) (r : ShownRecord) (given : Option (Changes X)) (steps : List Step) → ListsOpenings config head r (changes_of given) steps
    → (IsSome given → Has MakesChanges steps) → AreMadeAt config head r given
made_at config head r given steps lists some = record {
  some = λ is.
      let k = has_each MakesChanges (IsOpen config head r (changes_of given)) steps (some is) lists.each in
      let x : Step = k.0 in
      (wants_of x.wants, x.change, turn_of (changes_of given) x.after, k.1.0, k.2, ap (λ (v : RoutesOfStep). routes_turn (changes_of given) v) k.1.1);
  all = λ left still turn others families opens e.
      let k = one_has (λ x. IsStep (changes_of given) x left still turn) steps (lists.every left still turn opens) in
      let x : Step = k.0 in
      gives_these (changes_of given) others x.after.routes families (ap (λ (v : Turn). v.routes) k.1.ends ∙ e);
}

-- ---- the table behind a record

-- no changes leave it as it is; once Idle is shown it is empty
behind_none : (f : Fsm) (changes : RouteChanges) (table : Routes) → changes ≡ no_changes → (f ≡ fsms.Idle → table ≡ no_routes) → table_behind f changes table ≡ table
behind_none fsms.Idle changes table e empty = sym (empty refl)
behind_none fsms.Connect changes table e empty = ap (λ (v : RouteChanges). routes_after v table) e ∙ after_no_changes table
behind_none fsms.Active changes table e empty = ap (λ (v : RouteChanges). routes_after v table) e ∙ after_no_changes table
behind_none fsms.OpenSent changes table e empty = ap (λ (v : RouteChanges). routes_after v table) e ∙ after_no_changes table
behind_none fsms.OpenConfirm changes table e empty = ap (λ (v : RouteChanges). routes_after v table) e ∙ after_no_changes table
behind_none fsms.Established changes table e empty = ap (λ (v : RouteChanges). routes_after v table) e ∙ after_no_changes table

behind_change : (o : Option Fsm) (f : Fsm) (changes : RouteChanges) (table : Routes) → changes ≡ no_changes → (f ≡ fsms.Idle → table ≡ no_routes)
    → table_behind (shown_after f o) changes table ≡ table_by_change o table
behind_change None f changes table e empty = behind_none f changes table e empty
behind_change (Some fsms.Idle) f changes table e empty = refl
behind_change (Some fsms.Connect) f changes table e empty = ap (λ (v : RouteChanges). routes_after v table) e ∙ after_no_changes table
behind_change (Some fsms.Active) f changes table e empty = ap (λ (v : RouteChanges). routes_after v table) e ∙ after_no_changes table
behind_change (Some fsms.OpenSent) f changes table e empty = ap (λ (v : RouteChanges). routes_after v table) e ∙ after_no_changes table
behind_change (Some fsms.OpenConfirm) f changes table e empty = ap (λ (v : RouteChanges). routes_after v table) e ∙ after_no_changes table
behind_change (Some fsms.Established) f changes table e empty = ap (λ (v : RouteChanges). routes_after v table) e ∙ after_no_changes table

-- a record that isn't received makes no changes
made_none : {X : Type 0} (config : Config) (words : Words) (r : ShownRecord) (given : Option (Changes X)) → AreMade config words r given
    → ((head : Head) (left : List Want) (still : Option (Fsm × Fsm)) (turn : Turn) (c : RouteChanges) (f : Families) → Opens config head r left still turn → turn.routes ≡ Given c f → ⊥)
    → changes_of given ≡ no_changes
made_none config words r given made never = elim made [
  | inl none ↦ ap (λ (v : Option (Changes _)). changes_of v) none.1
  | inr k ↦ no_changes_of given (λ is. let x = k.2.some is in never k.0.head x.0 x.1 x.2 (changes_of given) x.3 x.4 x.5)
]

-- in Established
changed_up : {X : Type 0} (config : Config) (head : Head) (u : ℕ) (octets : List ℕ) (given : Option (Changes X)) (link : Link) (table last : Routes) → fsm_of head ≡ fsms.Established
    → ((own : Link) → link_at head ≡ Some own → own ≡ link) → AreMadeAt config head (Received u octets) given → last ≡ routes_after (changes_of given) table
    → IsTableChanged config link octets table last
changed_up config head u octets given link table last up linked made e =
    let h = up_head head up in
    let same : h.0 ≡ link = linked h.0 (ap link_at h.2) in
    let at : AreMadeAt config (Established h.0 h.1) (Received u octets) given = subst (λ (v : Head). AreMadeAt config v (Received u octets) given) h.2 made in
    record {
      applied = λ c may.
          let may2 : MayApply config h.0 octets c = subst (λ (v : Link). MayApply config v octets c) (sym same) may in
          let k = at.all [] None (record { head = Established h.0 (renewed h.1 u); routes = Given c may2.1 }) c may2.1 (outcome_opens config h.0 h.1 u octets c may2) refl in
          e ∙ ap (λ (v : RouteChanges). routes_after v table) (sym k);
      kept = λ none.
          let k = no_changes_of given (λ is.
          let x = at.some is in
          none (changes_of given) (subst (λ (v : Link). MayApply config v octets (changes_of given)) same
          (opened_outcome config h.0 h.1 u octets x.0 x.1 x.2 (changes_of given) x.3 x.4 x.5))) in
          e ∙ ap (λ (v : RouteChanges). routes_after v table) k ∙ after_no_changes table;
    }

-- elsewhere no changes are made
none_elsewhere : {X : Type 0} (config : Config) (head : Head) (r : ShownRecord) (given : Option (Changes X)) → AreMadeAt config head r given → (fsm_of head ≡ fsms.Established → ⊥)
    → changes_of given ≡ no_changes
none_elsewhere config head r given made down = no_changes_of given (λ is.
    let x = made.some is in
    down (given_then config head r x.0 x.0 x.1 x.1 x.2 x.2 (changes_of given) x.3 x.4 x.5).0)

by_message : {X : Type 0} (f : Fsm) (config : Config) (head : Head) (u : ℕ) (octets : List ℕ) (given : Option (Changes X)) (link : Link) (table : Routes) → fsm_of head ≡ f
    → ((own : Link) → link_at head ≡ Some own → own ≡ link) → AreMadeAt config head (Received u octets) given → (f ≡ fsms.Idle → table ≡ no_routes)
    → IsTableByMessage config f link octets table (table_behind f (changes_of given) table)
by_message fsms.Idle config head u octets given link table e linked made empty = sym (empty refl)
by_message fsms.Connect config head u octets given link table e linked made empty =
    behind_none fsms.Connect (changes_of given) table (none_elsewhere config head (Received u octets) given made (λ z. let k : fsms.Connect ≡ fsms.Established = sym e ∙ z in cc)) empty
by_message fsms.Active config head u octets given link table e linked made empty =
    behind_none fsms.Active (changes_of given) table (none_elsewhere config head (Received u octets) given made (λ z. let k : fsms.Active ≡ fsms.Established = sym e ∙ z in cc)) empty
by_message fsms.OpenSent config head u octets given link table e linked made empty =
    behind_none fsms.OpenSent (changes_of given) table (none_elsewhere config head (Received u octets) given made (λ z. let k : fsms.OpenSent ≡ fsms.Established = sym e ∙ z in cc)) empty
by_message fsms.OpenConfirm config head u octets given link table e linked made empty =
    behind_none fsms.OpenConfirm (changes_of given) table
    (none_elsewhere config head (Received u octets) given made (λ z. let k : fsms.OpenConfirm ≡ fsms.Established = sym e ∙ z in cc)) empty
by_message fsms.Established config head u octets given link table e linked made empty =
    changed_up config head u octets given link table (routes_after (changes_of given) table) e linked made refl

-- the record needs a base where it is received
abbrev pub NeedsBase : ShownRecord → Words → Type 0
NeedsBase (Received u octets) words = HasNoBase words → ⊥
NeedsBase r words = Unit {0}

-- the tracker's table is the next one
pub table_next : {X : Type 0} (config : Config) (words : Words) (table : Routes) (records : List ShownRecord) (r : ShownRecord) (given : Option (Changes X)) (shown : Fsm)
    → StandFor config (IsMember words table) records → IsTableOf words table → words.shown ≡ (told records).fsm
    → shown ≡ shown_after words.shown (going.told r) → AreMade config words r given → NeedsBase r words
    → IsTableBehind config (told records) r table (table_behind shown (changes_of given) table)
table_next config words table records (Received u octets) given shown stand of is e made needs = elim made [
  | inl none ↦ absurd (needs none.0)
  | inr k ↦
      let f : fsm_of k.0.head ≡ (told records).fsm = k.1.name ∙ is in
      subst (λ (v : Fsm). IsTableByMessage config (told records).fsm (link_told config (told records)) octets table (table_behind v (changes_of given) table)) (sym (e ∙ is))
      (by_message (told records).fsm config k.0.head u octets given (link_told config (told records)) table f
      (λ own l. told_link config words table records k.0 own stand of k.1 l) k.2 (λ z. of.empty (idle_not_up words.shown (is ∙ z))))
]
table_next config words table records (Sent u octets) given shown stand of is e made needs =
    behind_none shown (changes_of given) table
    (made_none config words (Sent u octets) given made (λ head left still turn c f o g. hidden_gives config head (Sent u octets) left still turn c f o g))
    (λ z. of.empty (idle_not_up words.shown (sym e ∙ z)))
table_next config words table records (Changed u x y) given shown stand of is e made needs =
    ap (λ (v : Fsm). table_behind v (changes_of given) table) e
    ∙ behind_change (fsm_at y) words.shown (changes_of given) table
    (made_none config words (Changed u x y) given made (λ head left still turn c f o g. hidden_gives config head (Changed u x y) left still turn c f o g))
    (λ z. of.empty (idle_not_up words.shown z))

-- ---- it is empty unless Established is shown

pub up_or_not : (f : Fsm) → (f ≡ fsms.Established) ⊎ (f ≡ fsms.Established → ⊥)
up_or_not fsms.Idle = inr (λ e. cc)
up_or_not fsms.Connect = inr (λ e. cc)
up_or_not fsms.Active = inr (λ e. cc)
up_or_not fsms.OpenSent = inr (λ e. cc)
up_or_not fsms.OpenConfirm = inr (λ e. cc)
up_or_not fsms.Established = inl refl

-- what a member becomes where Established is shown: then Idle is, or it still
continues_up : (config : Config) (words : Words) (table : Routes) (r : ShownRecord) (m m2 : Member) → AreFine words → IsMember words table m → Continues config r m m2
    → words.shown ≡ fsms.Established → (shown_after words.shown (going.told r) ≡ fsms.Idle) ⊎ (shown_after words.shown (going.told r) ≡ fsms.Established)
continues_up config words table r m m2 fine is c up = elim is [
  | Front d on e ↦
      let c2 : Continues config r (front_member words table d) m2 = subst (λ (v : Member). Continues config r v m2) e c in
      let p : Part config None r (wants_of words.wants) words.shown (fsm_of words.head) m2.wants m2.change =
      part config None r (wants_of words.wants) words.shown (fsm_of words.head) m2.wants m2.change c2.pays in
      elim p.way [
        | inl a ↦ inr (ap (λ (v : Option Fsm). shown_after words.shown v) a.0 ∙ up)
        | inr b ↦ inr (ap (λ (v : Option Fsm). shown_after words.shown v) b.0 ∙ fine.stay_up d on up)
      ]
  | Fallen f has e ↦
      let c2 : Continues config r (fallen_member words f) m2 = subst (λ (v : Member). Continues config r v m2) e c in
      elim (paid_stays config words f r m2 c2) [ inl a ↦ inr (a ∙ up) | inr b ↦ inl b ]
]

leads_away : (config : Config) (words : Words) (head : Head) (r : ShownRecord) (left : List Want) (still : Option (Fsm × Fsm)) (turn : Turn) → Opens config head r left still turn
    → fsm_of head ≡ words.shown → words.shown ≡ fsms.Established
    → (shown_after words.shown (going.told r) ≡ fsms.Idle) ⊎ (shown_after words.shown (going.told r) ≡ fsms.Established)
leads_away config words head (Received u octets) left still turn o name up = inr up
leads_away config words head (Sent u octets) left still turn o name up = inr up
leads_away config words head (Changed u x y) left still turn o name up =
    let e = ap (λ (v : Fsm). shown_after v (going.told (Changed u x y))) (sym name) in
    elim (leaves_up config head u x y left still turn o (name ∙ up)) [ inl a ↦ inl (e ∙ a) | inr a ↦ inr (e ∙ a) ]

next_up : {X : Type 0} (config : Config) (words : Words) (table : Routes) (r : ShownRecord) (given : Option (Changes X)) (m m2 : Member) → AreFine words → IsTableOf words table
    → AreMade config words r given → IsMember words table m → Next config r m m2 → words.shown ≡ fsms.Established
    → (shown_after words.shown (going.told r) ≡ fsms.Idle) ⊎ (shown_after words.shown (going.told r) ≡ fsms.Established)
next_up config words table r given m m2 fine of made is next up = elim next [
  | inl c ↦ continues_up config words table r m m2 fine is c up
  | inr s ↦ elim made [
    | inl none ↦ absurd (none.0 table m is s.free)
    | inr k ↦
        let b = k.1.from table of m is s.free in
        let name : fsm_of s.before.head ≡ words.shown = ap (λ (v : End). v.fsm) (silent_end config m.state s.before s.silent)
        ∙ ap (λ (v : Member). fsm_of v.state.head) b.2 ∙ k.1.name in
        leads_away config words s.before.head r m2.wants m2.change s.turn s.opens name up
  ]
]

pub empty_so : {X : Type 0} (config : Config) (words n : Words) (table : Routes) (r : ShownRecord) (given : Option (Changes X)) (m m2 : Member) → AreFine words → IsTableOf words table
    → AreMade config words r given → IsMember words table m → Next config r m m2 → n.shown ≡ shown_after words.shown (going.told r)
    → (n.shown ≡ fsms.Established → ⊥) → table_behind n.shown (changes_of given) table ≡ no_routes
empty_so config words n table r given m m2 fine of made is next e not = elim (up_or_not words.shown) [
  | inl up ↦ elim (next_up config words table r given m m2 fine of made is next up) [
    | inl idle ↦ ap (λ (v : Fsm). table_behind v (changes_of given) table) (e ∙ idle)
    | inr still ↦ absurd (not (e ∙ still))
  ]
  | inr down ↦
      let empty = of.empty down in
      let none : changes_of given ≡ no_changes = elim made [
        | inl k ↦ ap (λ (v : Option (Changes _)). changes_of v) k.1
        | inr k ↦ none_elsewhere config k.0.head r given k.2 (λ z. down (sym k.1.name ∙ z))
      ] in
      behind_none n.shown (changes_of given) table none (λ z. empty) ∙ empty
]
