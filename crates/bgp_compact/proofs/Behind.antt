-- What the tracker stands for behind a record.
use Rattle.std.proofs.Common.{◌≡◌, ◌⊎◌, ◌↔◌, inl, inr, Bool, true, false, IsTrue, List, [], ◌∷◌, ◌++◌, Option, None, refl, sym, ap, subst, ◌∙◌}
use Rattle.bgp_prefix.specs.Shown.{ShownRecord, Received, Sent, Changed}
use Rattle.bgp_open.specs.declared.config.Config.{Config}
use Rattle.bgp_open.specs.declared.families.Families.{Families}
use Rattle.bgp_update.specs.declared.outcomes.Changes.{Changes}
use Rattle.bgp_update.specs.Changes.{RouteChanges}
use Rattle.bgp_machine.specs.declared.fsm.Fsm.{Fsm}
use Rattle.bgp_machine.specs.declared.fsm.Fsm.TheVariants as fsms
use Rattle.bgp_machine.specs.Going.{shown_after}
use Rattle.bgp_machine.specs.Going as going
use Rattle.bgp_machine.specs.Listed.{changes_of}
use Rattle.bgp_machine.specs.Owed.{EachOwedCanBeMet}
use Rattle.bgp_machine.specs.Run.{Begins}
use Rattle.bgp_machine.proofs.Moves.{after_no_changes}
use Rattle.bgp_rib.specs.Routes.{Routes, AreRoutes, no_routes, routes_after}
use Rattle.bgp_rib.proofs.RouteLaws.{none_are, changed_are}
use Rattle.bgp_judge.specs.Image.{IsImage}
use Rattle.bgp_judge.specs.Member.{Member}
use Rattle.bgp_judge.specs.Stands.{StandFor}
use Rattle.bgp_judge.specs.Told.{Told, fresh_told, told}
use Rattle.bgp_judge.proofs.Telling.{told_one_more}
use Rattle.bgp_judge.proofs.Standing.{image_stands, begins_from, member_from}
use Rattle.bgp_compact.specs.declared.words.Words.{Words}
use Rattle.bgp_compact.specs.Members.{GoesOn, IsMember}
use Rattle.bgp_compact.specs.Parts.{AreFine}
use Rattle.bgp_compact.specs.Standing.{IsTableOf, Stands}
use Rattle.bgp_compact.specs.Steps.{AreMade, table_behind}
use Rattle.bgp_compact.specs.Table.{IsTableMade}
use Rattle.bgp_compact.proofs.AllPaid.{shows_up}
use Rattle.bgp_compact.proofs.Images.{any_table}
use Rattle.bgp_compact.proofs.Making.{NeedsBase, empty_so, fsm_next, table_more, table_next}

-- ---- the table

behind_by : (shown : Fsm) (changes : RouteChanges) (table : Routes) → (shown ≡ fsms.Idle) ⊎ (table_behind shown changes table ≡ routes_after changes table)
behind_by fsms.Idle changes table = inl refl
behind_by fsms.Connect changes table = inr refl
behind_by fsms.Active changes table = inr refl
behind_by fsms.OpenSent changes table = inr refl
behind_by fsms.OpenConfirm changes table = inr refl
behind_by fsms.Established changes table = inr refl

empty_by : (shown : Fsm) (changes : RouteChanges) (table : Routes) → shown ≡ fsms.Idle → table_behind shown changes table ≡ no_routes
empty_by shown changes table e = ap (λ (v : Fsm). table_behind v changes table) e

else_by : (shown : Fsm) (changes : RouteChanges) (table : Routes) → (shown ≡ fsms.Idle → ⊥) → table_behind shown changes table ≡ routes_after changes table
else_by shown changes table up = elim (behind_by shown changes table) [ inl e ↦ absurd (up e) | inr e ↦ e ]

pub kept_by : {X : Type 0} (shown : Fsm) (given : Option (Changes X)) (table : Routes) → (shown ≡ fsms.Idle → ⊥) → given ≡ None
    → table ≡ table_behind shown (changes_of given) table
kept_by shown given table up e =
    sym (else_by shown (changes_of given) table up ∙ ap (λ (v : Option (Changes _)). routes_after (changes_of v) table) e ∙ after_no_changes table)

after_enabled : (changes : RouteChanges) (table : Routes) → (routes_after changes table).disabled ≡ table.disabled
unfolding routes_after
after_enabled changes table = refl

table_so : (old n : Words) (changes : RouteChanges) (table : Routes) → IsTableOf old table
    → ((n.shown ≡ fsms.Established → ⊥) → table_behind n.shown changes table ≡ no_routes) → IsTableOf n (table_behind n.shown changes table)
table_so old n changes table is down = elim (behind_by n.shown changes table) [
  | inl idle ↦
      let e : table_behind n.shown changes table ≡ no_routes = empty_by n.shown changes table idle in
      record {
        are = subst AreRoutes (sym e) none_are;
        enabled = ap (λ (v : Routes). v.disabled) e;
        empty = down;
      }
  | inr e ↦ record {
    are = subst AreRoutes (sym e) (changed_are changes table is.are);
    enabled = ap (λ (v : Routes). v.disabled) e ∙ after_enabled changes table ∙ is.enabled;
    empty = down;
  }
]

-- members look at the table only where Idle isn't shown
same_members : (n : Words) (changes : RouteChanges) (table : Routes) (m : Member)
    → IsMember n (routes_after changes table) m ↔ IsMember n (table_behind n.shown changes table) m
same_members n changes table m = elim (behind_by n.shown changes table) [
  | inl idle ↦
      let none : (d : Families) → GoesOn n d → ⊥ = λ d on. (shows_up n.shown n.sets d on).0 idle in (
        λ h. any_table n (routes_after changes table) (table_behind n.shown changes table) m none h,
        λ h. any_table n (table_behind n.shown changes table) (routes_after changes table) m none h,
      )
  | inr e ↦ (λ h. subst (λ (v : Routes). IsMember n v m) (sym e) h, λ h. subst (λ (v : Routes). IsMember n v m) e h)
]

image_behind : (config : Config) (r : ShownRecord) (old n : Words) (changes : RouteChanges) (table : Routes)
    → IsImage config r (IsMember old table) (IsMember n (routes_after changes table)) → IsImage config r (IsMember old table) (IsMember n (table_behind n.shown changes table))
image_behind config r old n changes table image = record {
  sound = λ m2 h. image.sound m2 ((same_members n changes table m2).1 h);
  whole = λ m m2 h step. let k = image.whole m m2 h step in (k.0, (same_members n changes table k.0).0 k.1, k.2);
}

-- ---- the tracker

abbrev pub ImageEach : Config → ShownRecord → Words → Words → RouteChanges → Type 0
ImageEach config r old n changes =
    (table : Routes) → IsTableOf old table → IsImage config r (IsMember old table) (IsMember n (routes_after changes table))

-- its members stand for one record more
pub take_stands : EachOwedCanBeMet → (own config : Config) (records : List ShownRecord) (r : ShownRecord) (old n : Words) (changes : RouteChanges) (table last : Routes)
    → own ≡ config → Stands config old table records → ImageEach own r old n changes → last ≡ table_behind n.shown changes table
    → StandFor config (IsMember n last) (records ++ r ∷ [])
take_stands law own config records r old n changes table last same s image e =
    let i : IsImage config r (IsMember old table) (IsMember n (routes_after changes table)) =
    subst (λ (c : Config). IsImage c r (IsMember old table) (IsMember n (routes_after changes table))) same (image table s.is_table) in
    subst (λ (v : Routes). StandFor config (IsMember n v) (records ++ r ∷ [])) (sym e)
    (image_stands law config (IsMember old table) (IsMember n (table_behind n.shown changes table)) records r (image_behind config r old n changes table i) s.stand)

-- where a message was received and there is a member, some had nothing left to show
needs_base : (config : Config) (r : ShownRecord) (old n : Words) (table after : Routes) → IsTableOf old table → IsImage config r (IsMember old table) (IsMember n after)
    → (m : Member) × IsMember n after m → NeedsBase r old
needs_base config (Received u octets) old n table after of image some = λ none.
    let k = image.sound some.0 some.1 in
    elim k.2 [ inl c ↦ c.pays | inr s ↦ none table k.0 k.1 s.free ]
needs_base config (Sent u octets) old n table after of image some = tt
needs_base config (Changed u x y) old n table after of image some = tt

-- and where there is a member, its table is the one that the records make
pub take_makes : {X : Type 0} → EachOwedCanBeMet → (own config : Config) (records : List ShownRecord) (r : ShownRecord) (old n : Words) (given : Option (Changes X)) (table last : Routes)
    → own ≡ config → Stands config old table records → ImageEach own r old n (changes_of given) → last ≡ table_behind n.shown (changes_of given) table
    → n.shown ≡ shown_after old.shown (going.told r) → AreFine old → AreMade own old r given → ((t : Routes) → (m : Member) × IsMember n t m)
    → Stands config n last (records ++ r ∷ [])
take_makes law own config records r old n given table last same s image e shown fine made some =
    let after : Routes = routes_after (changes_of given) table in
    let m2 = some after in
    let k = (image table s.is_table).sound m2.0 m2.1 in
    let down : (n.shown ≡ fsms.Established → ⊥) → table_behind n.shown (changes_of given) table ≡ no_routes =
    λ not. empty_so own old n table r given k.0 m2.0 fine s.is_table made k.1 k.2 shown not in
    let made2 : AreMade config old r given = subst (λ (c : Config). AreMade c old r given) same made in
    let next = table_next config old table records r given n.shown s.stand s.is_table s.shown_is shown made2
    (needs_base own r old n table after s.is_table (image table s.is_table) (some after)) in
    let from = table_more config fresh_told no_routes table (table_behind n.shown (changes_of given) table) records r s.made next in
    record {
      stand = take_stands law own config records r old n (changes_of given) table last same s image e;
      is_table = subst (λ (v : Routes). IsTableOf n v) (sym e) (table_so old n (changes_of given) table s.is_table down);
      shown_is = shown ∙ ap (λ (v : Fsm). shown_after v (going.told r)) s.shown_is ∙ sym (ap (λ (v : Told). v.fsm) (told_one_more records r) ∙ fsm_next (told records) r);
      made = subst (λ (v : Routes). IsTableMade config (records ++ r ∷ []) v) (sym e) from;
    }

true_or_false : (b : Bool) → (IsTrue b) ⊎ (IsTrue b → ⊥)
true_or_false true = inl refl
true_or_false false = inr (λ e. cc)

-- there is a member exactly where the records begin a run
pub alive_so : (config : Config) (records : List ShownRecord) (n : Words) (table : Routes) (alive : Bool) → StandFor config (IsMember n table) records
    → (IsTrue alive → (t : Routes) → (m : Member) × IsMember n t m) → ((IsTrue alive → ⊥) → (t : Routes) (m : Member) → IsMember n t m → ⊥)
    → IsTrue alive ↔ Begins config records
alive_so config records n table alive stand some none = (
  λ t. let k = some t table in begins_from config (IsMember n table) records k.0 stand k.1,
  λ begins. elim (true_or_false alive) [
    | inl t ↦ t
    | inr f ↦ (let k = member_from config (IsMember n table) records stand begins in absurd (none f table k.0 k.1))
  ],
)
