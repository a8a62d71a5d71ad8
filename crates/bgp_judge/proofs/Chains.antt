-- Chains of members are the runs that their records begin; and routes decide nothing in them.
use Rattle.std.proofs.Common.{◌≡◌, inl, inr, List, [], ◌∷◌, ◌++◌, refl, sym, ap, subst, ◌∙◌, append_assoc, append-nil}
use Rattle.bgp_prefix.specs.Shown.{ShownRecord}
use Rattle.bgp_open.specs.declared.config.Config.{Config}
use Rattle.bgp_machine.specs.Routes.{Routes, no_routes}
use Rattle.bgp_machine.specs.declared.state.Head.{Head}
use Rattle.bgp_machine.specs.Lists.{Has, Each}
use Rattle.bgp_machine.specs.Owed.{EachOwedCanBeMet}
use Rattle.bgp_machine.specs.Rows.{silent_heads}
use Rattle.bgp_machine.specs.Run.{Silent}
use Rattle.bgp_machine.specs.State.{SessionState, moved}
use Rattle.bgp_machine.proofs.Quiet.{lists_silent, quiet}
use Rattle.bgp_judge.specs.Chains.{Reaches, with_routes, bare, BareReaches, BeginsByChains, EndsByChains, BareStep, BareChains}
use Rattle.bgp_judge.specs.Image.{IsImage}
use Rattle.bgp_judge.specs.Member.{Member, fresh_member}
use Rattle.bgp_judge.specs.Next.{Next}
use Rattle.bgp_judge.specs.Stands.{StandFor}
use Rattle.bgp_judge.proofs.Standing.{fresh_stands, image_stands, begins_from, member_from, ends_so}

-- members that are just those of others stand for what those do
same_stand : (config : Config) (Is Is2 : Member → Type 0) (records : List ShownRecord) → ((m : Member) → Is m → Is2 m) → ((m : Member) → Is2 m → Is m)
    → StandFor config Is records → StandFor config Is2 records
same_stand config Is Is2 records to from stand = record {
  goes_on = λ rest e. (
    λ x. (stand.goes_on rest e).0 (x.0, from x.0 x.1, x.2),
    λ run. let x = (stand.goes_on rest e).1 run in (x.0, to x.0 x.1, x.2),
  );
  can_be_met = λ m is. stand.can_be_met m (from m is);
}

-- what a record makes of members is an image of them
steps_image : (config : Config) (Is : Member → Type 0) (r : ShownRecord) → IsImage config r Is (λ m2. (m : Member) × Is m × Next config r m m2)
steps_image config Is r = record {
  sound = λ m2 is. is;
  whole = λ m m2 is next. (m2, (m, is, next), inl refl);
}

chain_stands : EachOwedCanBeMet → (config : Config) (Is : Member → Type 0) (front records : List ShownRecord) → StandFor config Is front
    → StandFor config (λ m2. (m : Member) × Is m × Reaches config m records m2) (front ++ records)
chain_stands law config Is front [] stand =
    subst (λ (v : List ShownRecord). StandFor config (λ m2. (m : Member) × Is m × (m ≡ m2)) v) (sym (append-nil front))
    (same_stand config Is (λ m2. (m : Member) × Is m × (m ≡ m2)) front (λ m is. (m, is, refl)) (λ m2 x. subst (λ (v : Member). Is v) x.2 x.1) stand)
chain_stands law config Is front (r ∷ records) stand =
    let Then : Member → Type 0 = λ m2. (m : Member) × Is m × Next config r m m2 in
    let one : StandFor config Then (front ++ r ∷ []) = image_stands law config Is Then front r (steps_image config Is r) stand in
    let all : StandFor config (λ m2. (m : Member) × Then m × Reaches config m records m2) ((front ++ r ∷ []) ++ records) = chain_stands law config Then (front ++ r ∷ []) records one in
    same_stand config (λ m2. (m : Member) × Then m × Reaches config m records m2) (λ m2. (m : Member) × Is m × Reaches config m (r ∷ records) m2) (front ++ r ∷ records)
    (λ m2 x. let k = x.1 in (k.0, k.1, (x.0, k.2, x.2)))
    (λ m2 x. let k = x.2 in (k.0, (x.0, x.1, k.1), k.2))
    (subst (λ (v : List ShownRecord). StandFor config (λ m2. (m : Member) × Then m × Reaches config m records m2) v) (append_assoc front (r ∷ []) records) all)

-- those that a chain leads to from the fresh one stand for its records
reached_stand : EachOwedCanBeMet → (config : Config) (records : List ShownRecord) → StandFor config (λ m. Reaches config fresh_member records m) records
reached_stand law config records =
    same_stand config (λ m2. (m : Member) × (m ≡ fresh_member) × Reaches config m records m2) (λ m. Reaches config fresh_member records m) records
    (λ m2 x. subst (λ (v : Member). Reaches config v records m2) x.1 x.2) (λ m2 x. (fresh_member, refl, x))
    (chain_stands law config (λ m. m ≡ fresh_member) [] records (fresh_stands config (λ m. m ≡ fresh_member) refl (λ m e. e)))

pub begins_by_chains : EachOwedCanBeMet → BeginsByChains
begins_by_chains law config records =
    let stand = reached_stand law config records in (
      λ begins. member_from config (λ m. Reaches config fresh_member records m) records stand begins,
      λ k. begins_from config (λ m. Reaches config fresh_member records m) records k.0 stand k.1,
    )

pub ends_by_chains : EachOwedCanBeMet → EndsByChains
ends_by_chains law config records e = ends_so config (λ m. Reaches config fresh_member records m) records (reached_stand law config records) e

-- ---- routes

of_each : (P : Head → Type 0) (hs : List Head) (h : Head) → Each P hs → Has (λ x. x ≡ h) hs → P h
of_each P [] h each has = absurd has
of_each P (x ∷ hs) h each has = elim has [ inl e ↦ subst P e each.0 | inr k ↦ of_each P hs h each.1 k ]

-- silence leads to the same heads with other routes
silent_with : (config : Config) (s e : SessionState) (routes : Routes) → Silent config s e
    → Silent config (record s { routes = routes }) (record e { routes = routes })
silent_with config s e routes silent =
    let q = quiet config silent.steps s e silent.are_steps silent.shows in
    of_each (λ h. Silent config (record s { routes = routes }) (record { head = h; routes = routes })) (silent_heads config s.head) e.head
    (lists_silent config s.head routes).each q.1

-- what a record makes of a member, it makes of the same with other routes, but for routes
next_with : (config : Config) (r : ShownRecord) (m x : Member) (routes : Routes) → Next config r m x
    → (y : Member) × Next config r (with_routes routes m) y × (bare y ≡ bare x)
next_with config r m x routes next = elim next [
  | inl c ↦ (
    record x { state = record m.state { routes = routes } },
    inl (record { pays = c.pays; state = refl; link = c.link }),
    ap (λ (v : SessionState). record x { state = record v { routes = no_routes } }) (sym c.state),
  )
  | inr s ↦ (
    record x { state = moved (record s.before { routes = routes }) s.turn },
    inr (record {
      free = s.free;
      before = record s.before { routes = routes };
      silent = silent_with config m.state s.before routes s.silent;
      turn = s.turn;
      opens = s.opens;
      state = refl;
      link = s.link;
    }),
    ap (λ (v : SessionState). record x { state = record v { routes = no_routes } }) (sym s.state),
  )
]

pub bare_step : BareStep
bare_step config r m next = (
  λ k. let n = next_with config r m k.0 no_routes k.1 in (n.0, n.1, n.2 ∙ k.2),
  λ k. let n = next_with config r (bare m) k.0 m.state.routes k.1 in (n.0, n.1, n.2 ∙ k.2),
)

to_bare : (config : Config) (records : List ShownRecord) (m x : Member) → Reaches config m records x → BareReaches config (bare m) records (bare x)
to_bare config [] m x e = ap bare e
to_bare config (r ∷ records) m x k =
    let n = next_with config r m k.0 no_routes k.1 in
    (bare k.0, (n.0, n.1, n.2), to_bare config records k.0 x k.2)

from_bare : (config : Config) (records : List ShownRecord) (m b : Member) → BareReaches config (bare m) records b
    → (x : Member) × Reaches config m records x × (bare x ≡ b)
from_bare config [] m b e = (m, refl, e)
from_bare config (r ∷ records) m b k =
    let one = k.1 in
    let n = next_with config r (bare m) one.0 m.state.routes one.1 in
    let rest = from_bare config records n.0 b (subst (λ (v : Member). BareReaches config v records b) (sym (n.2 ∙ one.2)) k.2) in
    (rest.0, (n.0, n.1, rest.1), rest.2)

pub bare_chains : BareChains
bare_chains config records m last = (
  λ k. from_bare config records m last k,
  λ k. subst (λ (v : Member). BareReaches config (bare m) records v) k.2 (to_bare config records m k.0 k.1),
)
