-- What one step more makes of the words.
use Rattle.std.proofs.Common.{◌≡◌, ◌⊎◌, ◌↔◌, ◌||◌, inl, inr, Bool, true, false, IsTrue, List, [], ◌∷◌, Option, None, Some, refl, sym, ap, subst, ◌∙◌}
use Rattle.bgp_prefix.specs.Shown.{ShownRecord}
use Rattle.bgp_open.specs.declared.config.Config.{Config}
use Rattle.bgp_open.specs.declared.families.Families.{Families}
use Rattle.bgp_open.specs.declared.link.Link.{Link}
use Rattle.bgp_update.specs.Changes.{RouteChanges}
use Rattle.bgp_machine.specs.declared.fsm.Fsm.{Fsm}
use Rattle.bgp_machine.specs.declared.fsm.Fsm.TheVariants as fsms
use Rattle.bgp_machine.specs.declared.state.Head.{Head}
use Rattle.bgp_machine.specs.declared.state.Head.TheVariants.{Idle, Connect, Active, OpenSent, OpenConfirm, Established}
use Rattle.bgp_machine.specs.declared.step.Routes.{Routes as RoutesOfStep}
use Rattle.bgp_machine.specs.declared.step.Routes.TheVariants as routes
use Rattle.bgp_machine.specs.declared.step.Step.{Step}
use Rattle.bgp_machine.specs.declared.want.FaultSet.{FaultSet}
use Rattle.bgp_machine.specs.declared.want.Want.{Want}
use Rattle.bgp_machine.specs.declared.want.Want.TheVariants as wants
use Rattle.bgp_machine.specs.declared.want.Wants.{Wants}
use Rattle.bgp_machine.specs.declared.want.Wants.TheVariants.{Nothing, One, Two}
use Rattle.bgp_machine.specs.Going.{Falling, told, shown_after, undelayed}
use Rattle.bgp_machine.specs.Listed.{turn_of, routes_turn}
use Rattle.bgp_machine.specs.Run.{is_delayed}
use Rattle.bgp_machine.specs.State.{Turn, Cleared, fresh_state, fsm_of, link_at, moved, routes_by}
use Rattle.bgp_machine.specs.Step.{changed}
use Rattle.bgp_machine.specs.Want.{wants_of}
use Rattle.bgp_machine.proofs.Shapes.{shape_hidden, shape_received}
use Rattle.bgp_open.specs.Families.{union}
use Rattle.bgp_rib.specs.Routes.{Routes, AreRoutes, no_routes, routes_after, routes_without}
use Rattle.bgp_rib.proofs.RouteLaws.{left_out}
use Rattle.bgp_judge.specs.Member.{link_for}
use Rattle.bgp_judge.specs.Next.{Opens}
use Rattle.bgp_judge.specs.Plain.{opened_member}
use Rattle.bgp_compact.specs.declared.base.Base.{Base}
use Rattle.bgp_compact.specs.declared.disabled.DisabledSets.{DisabledSets}
use Rattle.bgp_compact.specs.declared.falls.Fall.{Fall}
use Rattle.bgp_compact.specs.declared.falls.Fall.TheVariants.{Silent, Erred, Faulted}
use Rattle.bgp_compact.specs.declared.words.Words.{Words}
use Rattle.bgp_compact.specs.Disabled.{holds, shifted_by}
use Rattle.bgp_compact.specs.Members.{HasFall, GoesOn, fallen_member, front_member, left_of, left_where, link_in, link_before, sends_of}
use Rattle.bgp_compact.specs.Members.IsMember.{Front, Fallen}
use Rattle.bgp_compact.specs.Parts.{AgreeOnFaults, disabled_of, fall_for, with_fall}
use Rattle.bgp_compact.specs.Steps.{AreBehind, AreFresh, Fits, FromStep, Gains, HasSome, IsOpen, LeadsOn, LeadsToFaults}
use Rattle.bgp_compact.proofs.AllPaid.{shows_up, goes_where}
use Rattle.bgp_compact.proofs.OneFall.{has_with, sends_fall}
use Rattle.bgp_compact.proofs.Opened.{falls_or_not, falling_sends, one_set_of_faults, owed_so}
use Rattle.bgp_compact.proofs.SetsOfSets.{shifted_from, shifted_to}
use Rattle.bgp_compact.proofs.Ways.{fsm_undelayed, link_undelayed, is_idle, idle_or_not, one_way, not_cleared, goes_without_link, link_stays, idle_sends, shown_where_falls, shown_where_goes}

-- ---- the state that was left, and the link that stood in it

pub shown_left : (shown left : Fsm) → (shown ≡ fsms.Idle → ⊥) → left_where shown left ≡ shown
shown_left fsms.Idle left up = absurd (up refl)
shown_left fsms.Connect left up = refl
shown_left fsms.Active left up = refl
shown_left fsms.OpenSent left up = refl
shown_left fsms.OpenConfirm left up = refl
shown_left fsms.Established left up = refl

left_by : (shown left f : Fsm) → (f ≡ fsms.Idle → ⊥) → left ≡ f → (shown ≡ f) ⊎ (shown ≡ fsms.Idle) → left_where shown left ≡ f
left_by shown left f up e way = elim way [
  | inl a ↦ shown_left shown left (λ z. up (sym a ∙ z)) ∙ a
  | inr b ↦ ap (λ (v : Fsm). left_where v left) b ∙ e
]

link_where : (head : Head) (link : Option Link) → ((k : Link) → link_at head ≡ Some k → link ≡ Some k) → link_in (fsm_of head) link ≡ link_at head
link_where Idle link f = refl
link_where (Connect d) link f = refl
link_where (Active d) link f = refl
link_where (OpenSent timer) link f = refl
link_where (OpenConfirm own timer) link f = f own refl
link_where (Established own timer) link f = f own refl

-- ---- a step that falls

-- how a member that falls sends what it sends
record SendsSo (n : Words) (head : Head) (ws : Wants) : Type 0 where
  pub sends : wants_of ws ≡ sends_of (left_of n) (fall_for ws)
  pub link : link_for (wants_of ws) (link_at head) ≡ link_for (sends_of (left_of n) (fall_for ws)) (link_before n)

any_link : (ws vs : List Want) (a b : Option Link) → ws ≡ vs → ws ≡ [] → link_for ws a ≡ link_for vs b
any_link ws vs a b e none = ap (λ (v : List Want). link_for v a) none ∙ ap (λ (v : List Want). link_for v b) (sym none ∙ e)

sends_idle : (n : Words) (head : Head) (ws : Wants) → wants_of ws ≡ [] → SendsSo n head ws
sends_idle n head ws none =
    let e : wants_of ws ≡ sends_of (left_of n) (fall_for ws) = sends_fall (left_of n) Silent ws none in
    record { sends = e; link = any_link (wants_of ws) (sends_of (left_of n) (fall_for ws)) (link_at head) (link_before n) e none }

sends_up : (n : Words) (head : Head) (ws : Wants) (fall : Fall) → left_of n ≡ fsm_of head → ((k : Link) → link_at head ≡ Some k → link_at n.head ≡ Some k)
    → wants_of ws ≡ sends_of (fsm_of head) fall → SendsSo n head ws
sends_up n head ws fall l link so =
    let e : wants_of ws ≡ sends_of (left_of n) (fall_for ws) = sends_fall (left_of n) fall ws (so ∙ ap (λ (v : Fsm). sends_of v fall) (sym l)) in
    let k : link_at head ≡ link_before n = sym (ap (λ (v : Fsm). link_in v (link_at n.head)) l ∙ link_where head (link_at n.head) link) in
    record { sends = e; link = ap (λ (v : List Want). link_for v (link_at head)) e ∙ ap (λ (v : Option Link). link_for (sends_of (left_of n) (fall_for ws)) v) k }

falling_of : (config : Config) (head : Head) (r : ShownRecord) (left : List Want) (still : Option (Fsm × Fsm)) (turn : Turn) → Opens config head r left still turn
    → fsm_of turn.head ≡ fsms.Idle → Falling head left turn
falling_of config head r left still turn o e = elim (falls_or_not shape_hidden shape_received config head r left still turn o) [ inl f ↦ f | inr up ↦ absurd (up e) ]

shown_there : (config : Config) (head : Head) (r : ShownRecord) (n : Words) → AreBehind config (undelayed head) r n → n.shown ≡ shown_after (fsm_of head) (told r)
shown_there config head r n behind = behind.shown_is ∙ ap (λ (v : Fsm). shown_after v (told r)) (fsm_undelayed head)

sends_so : (config : Config) (head : Head) (r : ShownRecord) (changes : RouteChanges) (x : Step) (n : Words) → IsOpen config head r changes x
    → AreBehind config (undelayed head) r n → fsm_of x.after.head ≡ fsms.Idle → SendsSo n head x.wants
sends_so config head r changes x n o behind falls_there = elim (idle_or_not head) [
  | inl idle ↦
      sends_idle n head x.wants
      (idle_sends config r (wants_of x.wants) x.change (turn_of changes x.after)
      (subst (λ (v : Head). Opens config v r (wants_of x.wants) x.change (turn_of changes x.after)) idle o))
  | inr up ↦
      let f = falling_of config head r (wants_of x.wants) x.change (turn_of changes x.after) o falls_there in
      let s = falling_sends head (wants_of x.wants) (turn_of changes x.after) f in
      let same : fsm_of (undelayed head) ≡ fsm_of head = fsm_undelayed head in
      let up2 : fsm_of (undelayed head) ≡ fsms.Idle → ⊥ = λ z. up (sym same ∙ z) in
      let shown : n.shown ≡ shown_after (fsm_of head) (told r) = shown_there config head r n behind in
      let way = shown_where_falls config head r (wants_of x.wants) x.change (turn_of changes x.after) o falls_there in
      let l : left_of n ≡ fsm_of head = left_by n.shown n.left (fsm_of head) up (behind.left_is up2 ∙ same)
      (elim way [ inl a ↦ inl (shown ∙ a) | inr b ↦ inr (shown ∙ b) ]) in
      sends_up n head x.wants s.0 l (λ k e. behind.link_is k (link_undelayed head ∙ e)) s.1
]

fallen_state : (head : Head) (left : List Want) (turn : Turn) (table : Routes) → Falling head left turn → (head ≡ Idle → table ≡ no_routes)
    → moved (record { head = head; routes = table }) turn ≡ fresh_state
fallen_state head left turn table f fresh = elim f.ends [
  | inl e ↦ ap (λ (v : Turn). moved (record { head = head; routes = table }) v) e
  | inr e ↦
      ap (λ (v : Turn). moved (record { head = head; routes = table }) v) e.1
      ∙ ap (λ (v : Routes). record { head = Idle; routes = v }) (fresh e.0)
]

fallen_so : (config : Config) (base : Base) (r : ShownRecord) (changes : RouteChanges) (table : Routes) (x : Step) (n : Words) (d : Families)
    → IsOpen config base.head r changes x → AreBehind config (undelayed base.head) r n → AreFresh base table → IsTrue (holds base.sets d) → fsm_of x.after.head ≡ fsms.Idle
    → opened_member (record { head = base.head; routes = routes_without d table }) base.head changes x ≡ fallen_member n (fall_for x.wants)
fallen_so config base r changes table x n d o behind fresh held idle =
    let f = falling_of config base.head r (wants_of x.wants) x.change (turn_of changes x.after) o idle in
    let st = fallen_state base.head (wants_of x.wants) (turn_of changes x.after) (routes_without d table) f (fresh d held) in
    let so = sends_so config base.head r changes x n o behind idle in
    let shown : shown_after (fsm_of base.head) (told r) ≡ n.shown = sym (shown_there config base.head r n behind) in
    let c : x.change ≡ changed n.shown fsms.Idle =
    owed_so shape_hidden config base.head r (wants_of x.wants) x.change (turn_of changes x.after) o
    ∙ ap (λ (v : Fsm). changed (shown_after (fsm_of base.head) (told r)) v) idle ∙ ap (λ (v : Fsm). changed v fsms.Idle) shown in
    λ i. record { state = st i; link = so.link i; wants = so.sends i; change = c i }

-- what sends faults names them
faults_of : (left : Fsm) (ws : Wants) (s : FaultSet) → wants_of ws ≡ sends_of left (fall_for ws) → fall_for ws ≡ Faulted s → wants_of ws ≡ wants.Faults s ∷ []
faults_of left ws s e f = e ∙ ap (λ (v : Fall). sends_of left v) f

leads_to : (config : Config) (head : Head) (r : ShownRecord) (changes : RouteChanges) (x : Step) (s : FaultSet) → IsOpen config head r changes x
    → wants_of x.wants ≡ wants.Faults s ∷ [] → LeadsToFaults config (undelayed head) r s
leads_to config head r changes x s o e = record {
  before = head;
  same = refl;
  still = x.change;
  turn = turn_of changes x.after;
  opens = subst (λ (v : List Want). Opens config head r v x.change (turn_of changes x.after)) e o;
}

agree_so : (config : Config) (head : Head) (r : ShownRecord) (changes : RouteChanges) (x : Step) (n : Words) → IsOpen config head r changes x
    → AreBehind config (undelayed head) r n → fsm_of x.after.head ≡ fsms.Idle → AgreeOnFaults n.falls (fall_for x.wants)
agree_so config head r changes x n o behind idle = λ s others e has.
    let so = sends_so config head r changes x n o behind idle in
    behind.faults_agree others s has (leads_to config head r changes x s o (faults_of (left_of n) x.wants s so.sends e))

some_error : (ws : Wants) → fall_for ws ≡ Erred → wants_of ws ≡ [] → ⊥
some_error Nothing e none = let k : Silent ≡ Erred = e in cc
some_error (One w) e none = let k : w ∷ [] ≡ [] = none in cc
some_error (Two w v) e none = let k : w ∷ v ∷ [] ≡ [] = none in cc

pub falls_gain : (config : Config) (base : Base) (r : ShownRecord) (changes : RouteChanges) (table : Routes) (x : Step) (n : Words)
    → IsOpen config base.head r changes x → AreBehind config (undelayed base.head) r n → HasSome base → AreFresh base table → x.after.head ≡ Idle
    → Gains n (record n { falls = with_fall n.falls (fall_for x.wants) }) (routes_after changes table) (FromStep base changes table x)
falls_gain config base r changes table x n o behind some fresh is =
    let idle : fsm_of x.after.head ≡ fsms.Idle = ap fsm_of is in
    let agree = agree_so config base.head r changes x n o behind idle in
    let so : (d : Families) → IsTrue (holds base.sets d)
    → opened_member (record { head = base.head; routes = routes_without d table }) base.head changes x ≡ fallen_member n (fall_for x.wants) =
    λ d held. fallen_so config base r changes table x n d o behind fresh held idle in
    record {
      only = λ m h. elim h [
        | Front d on e ↦ inl (Front d on e)
        | Fallen g has e ↦ elim ((has_with n.falls (fall_for x.wants) g agree).0 has) [
          | inl old ↦ inl (Fallen g old e)
          | inr q ↦ inr (record {
            families = some.0;
            held = some.1;
            at_once = ap is_delayed is;
            member = e ∙ ap (λ (v : Fall). fallen_member n v) q ∙ sym (so some.0 some.1);
          })
        ]
      ];
      keeps = λ m h. elim h [
        | Front d on e ↦ Front d on e
        | Fallen g has e ↦ Fallen g ((has_with n.falls (fall_for x.wants) g agree).1 (inl has)) e
      ];
      adds = λ m q. Fallen (fall_for x.wants) ((has_with n.falls (fall_for x.wants) (fall_for x.wants) agree).1 (inr refl))
          (q.member ∙ so q.families q.held);
    }

pub falls_behind : (config : Config) (base : Base) (r : ShownRecord) (changes : RouteChanges) (x : Step) (n : Words)
    → IsOpen config base.head r changes x → AreBehind config (undelayed base.head) r n → x.after.head ≡ Idle
    → AreBehind config (undelayed base.head) r (record n { falls = with_fall n.falls (fall_for x.wants) })
falls_behind config base r changes x n o behind is =
    let idle : fsm_of x.after.head ≡ fsms.Idle = ap fsm_of is in
    let so = sends_so config base.head r changes x n o behind idle in
    let agree = agree_so config base.head r changes x n o behind idle in
    record {
      shown_is = behind.shown_is;
      left_is = behind.left_is;
      link_is = behind.link_is;
      lead_on = behind.lead_on;
      faults_agree = λ s t has leads. elim ((has_with n.falls (fall_for x.wants) (Faulted s) agree).0 has) [
        | inl old ↦ behind.faults_agree s t old leads
        | inr e ↦
            let k = leads_to config base.head r changes x s o (faults_of (left_of n) x.wants s so.sends (sym e)) in
            one_set_of_faults config k.before leads.before r (wants.Faults s ∷ []) (wants.Faults t ∷ []) k.still leads.still k.turn leads.turn s t
            (k.same ∙ sym leads.same) k.opens leads.opens refl refl
      ];
      fallen = λ fall has.
          elim (shown_where_falls config base.head r (wants_of x.wants) x.change (turn_of changes x.after) o idle) [
            | inl a ↦ inl (shown_there config base.head r n behind ∙ a ∙ sym (fsm_undelayed base.head))
            | inr b ↦ inr (shown_there config base.head r n behind ∙ b)
          ];
      errors = λ has. elim ((has_with n.falls (fall_for x.wants) Erred agree).0 has) [
        | inl old ↦ behind.errors old
        | inr e ↦ λ none. some_error x.wants (sym e) (so.sends ∙ ap (λ (v : Fall). sends_of (left_of n) v) (sym e) ∙ none)
      ];
    }

-- ---- a step that is left out

pub late_gain : (base : Base) (changes : RouteChanges) (table after : Routes) (x : Step) (n : Words) → IsTrue (is_delayed x.after.head)
    → Gains n n after (FromStep base changes table x)
late_gain base changes table after x n on = record {
  only = λ m h. inl h;
  keeps = λ m h. h;
  adds = λ m q. absurd (let e : true ≡ false = sym on ∙ q.at_once in let k : ⊥ = cc in k);
}

-- ---- a step that goes on

or_none : (b : Bool) → (b || false) ≡ b
or_none true = refl
or_none false = refl

go_routes : (changes : RouteChanges) (turn : RoutesOfStep) (d : Families) (table : Routes) → (routes_turn changes turn ≡ Cleared → ⊥)
    → (turn ≡ routes.Kept → routes_after changes table ≡ table) → AreRoutes table
    → routes_by (routes_turn changes turn) (routes_without d table) ≡ routes_without (union d (disabled_of turn)) (routes_after changes table)
go_routes changes routes.Kept d table not fits are =
    ap (λ (v : Routes). routes_without d v) (sym (fits refl))
    ∙ ap (λ (v : Families). routes_without v (routes_after changes table)) (λ i. record { v4 = sym (or_none d.v4) i; v6 = sym (or_none d.v6) i })
go_routes changes routes.Cleared d table not fits are = absurd (not refl)
go_routes changes (routes.Given families) d table not fits are = left_out changes d families table are

pub leads_on : (config : Config) (head : Head) (r : ShownRecord) (changes : RouteChanges) (x : Step) → IsOpen config head r changes x
    → (fsm_of x.after.head ≡ fsms.Idle → ⊥) → is_delayed x.after.head ≡ false → LeadsOn config (undelayed head) r x.after.head (wants_of x.wants)
leads_on config head r changes x o up off = record {
  before = head;
  same = refl;
  still = x.change;
  turn = turn_of changes x.after;
  opens = o;
  ends = refl;
  is_up = up;
  at_once = off;
}

front_so : (config : Config) (base : Base) (r : ShownRecord) (changes : RouteChanges) (table : Routes) (x : Step) (n : Words) (sets : DisabledSets) (d : Families)
    → IsOpen config base.head r changes x → AreBehind config (undelayed base.head) r n → AreRoutes table → Fits changes table x → (fsm_of x.after.head ≡ fsms.Idle → ⊥)
    → opened_member (record { head = base.head; routes = routes_without d table }) base.head changes x
    ≡ front_member (record n { head = x.after.head; wants = x.wants; sets = sets }) (routes_after changes table) (union d (disabled_of x.after.routes))
front_so config base r changes table x n sets d o behind are fits up =
    let turn : Turn = turn_of changes x.after in
    let q = go_routes changes x.after.routes d table (not_cleared config base.head r (wants_of x.wants) x.change turn o up) (λ k. fits k up) are in
    let l = goes_without_link config base.head r (wants_of x.wants) x.change turn o up in
    let shown : shown_after (fsm_of base.head) (told r) ≡ n.shown = sym (shown_there config base.head r n behind) in
    let c : x.change ≡ changed n.shown (fsm_of x.after.head) =
    owed_so shape_hidden config base.head r (wants_of x.wants) x.change turn o ∙ ap (λ (v : Fsm). changed v (fsm_of x.after.head)) shown in
    λ i. record { state = record { head = x.after.head; routes = q i }; link = l i; wants = wants_of x.wants; change = c i }

-- members that fall send on the same link
same_link : (config : Config) (head : Head) (r : ShownRecord) (changes : RouteChanges) (x : Step) (n : Words) → IsOpen config head r changes x
    → AreBehind config (undelayed head) r n → (fsm_of x.after.head ≡ fsms.Idle → ⊥) → (n.shown ≡ fsms.Idle → ⊥) → (g : Fall) → HasFall n.falls g
    → link_in (left_of n) (link_at n.head) ≡ link_in (left_of n) (link_at x.after.head)
same_link config head r changes x n o behind up alive g has =
    let l : left_of n ≡ fsm_of head = shown_left n.shown n.left alive ∙ elim (behind.fallen g has) [ inl a ↦ a ∙ fsm_undelayed head | inr b ↦ absurd (alive b) ] in
    ap (λ (v : Fsm). link_in v (link_at n.head)) l
    ∙ link_where head (link_at n.head) (λ k e. behind.link_is k (link_undelayed head ∙ e))
    ∙ sym (link_where head (link_at x.after.head) (λ k e. link_stays config head r (wants_of x.wants) x.change (turn_of changes x.after) k o up e))
    ∙ sym (ap (λ (v : Fsm). link_in v (link_at x.after.head)) l)

pub goes_gain : (config : Config) (base : Base) (r : ShownRecord) (changes : RouteChanges) (table : Routes) (x : Step) (n : Words) (sets : DisabledSets)
    → IsOpen config base.head r changes x → AreBehind config (undelayed base.head) r n → AreRoutes table → Fits changes table x
    → (x.after.head ≡ Idle → ⊥) → is_delayed x.after.head ≡ false
    → ((d : Families) → IsTrue (holds sets d) ↔ (IsTrue (holds n.sets d) ⊎ IsTrue (holds (shifted_by (disabled_of x.after.routes) base.sets) d)))
    → Gains n (record n { head = x.after.head; wants = x.wants; sets = sets }) (routes_after changes table) (FromStep base changes table x)
goes_gain config base r changes table x n sets o behind are fits not off both =
    let up : fsm_of x.after.head ≡ fsms.Idle → ⊥ = λ z. not (is_idle x.after.head z) in
    let n2 : Words = record n { head = x.after.head; wants = x.wants; sets = sets } in
    let after : Routes = routes_after changes table in
    let alive : n.shown ≡ fsms.Idle → ⊥ = λ z. shown_where_goes config base.head r (wants_of x.wants) x.change (turn_of changes x.after) o up
    (sym (shown_there config base.head r n behind) ∙ z) in
    let same : (d : Families) → GoesOn n d → front_member n after d ≡ front_member n2 after d =
    λ d on.
    let a = one_way config (undelayed base.head) r n.head x.after.head (wants_of n.wants) (wants_of x.wants) (behind.lead_on d on) (leads_on config base.head r changes x o up off) in
    λ i. record { state = record { head = a.0 i; routes = routes_without d after }; link = None; wants = a.1 i; change = changed n.shown (fsm_of (a.0 i)) } in
    let fallen_there : (g : Fall) → HasFall n.falls g → fallen_member n g ≡ fallen_member n2 g =
    λ g has.
    let l = same_link config base.head r changes x n o behind up alive g has in
    λ i. record { state = fresh_state; link = link_for (sends_of (left_of n) g) (l i); wants = sends_of (left_of n) g; change = changed n.shown fsms.Idle } in
    let so : (d : Families) → opened_member (record { head = base.head; routes = routes_without d table }) base.head changes x
    ≡ front_member n2 after (union d (disabled_of x.after.routes)) =
    λ d. front_so config base r changes table x n sets d o behind are fits up in
    record {
      only = λ m h. elim h [
        | Front d on e ↦ elim ((both d).0 (shows_up n.shown sets d on).1) [
          | inl old ↦ let k : GoesOn n d = goes_where n.shown n.sets d alive old in inl (Front d k (e ∙ sym (same d k)))
          | inr new ↦ let j = shifted_from base.sets (disabled_of x.after.routes) d new in inr (record {
            families = j.0;
            held = j.1;
            at_once = off;
            member = e ∙ ap (λ (v : Families). front_member n2 after v) j.2 ∙ sym (so j.0);
          })
        ]
        | Fallen g has e ↦ inl (Fallen g has (e ∙ sym (fallen_there g has)))
      ];
      keeps = λ m h. elim h [
        | Front d on e ↦ Front d (goes_where n.shown sets d alive ((both d).1 (inl (shows_up n.shown n.sets d on).1))) (e ∙ same d on)
        | Fallen g has e ↦ Fallen g has (e ∙ fallen_there g has)
      ];
      adds = λ m q. Front (union q.families (disabled_of x.after.routes))
          (goes_where n.shown sets (union q.families (disabled_of x.after.routes)) alive
          ((both (union q.families (disabled_of x.after.routes))).1 (inr (shifted_to base.sets (disabled_of x.after.routes) q.families q.held))))
          (q.member ∙ so q.families);
    }

pub goes_behind : (config : Config) (base : Base) (r : ShownRecord) (changes : RouteChanges) (x : Step) (n : Words) (sets : DisabledSets)
    → IsOpen config base.head r changes x → AreBehind config (undelayed base.head) r n → (x.after.head ≡ Idle → ⊥) → is_delayed x.after.head ≡ false
    → AreBehind config (undelayed base.head) r (record n { head = x.after.head; wants = x.wants; sets = sets })
goes_behind config base r changes x n sets o behind not off =
    let up : fsm_of x.after.head ≡ fsms.Idle → ⊥ = λ z. not (is_idle x.after.head z) in
    record {
      shown_is = behind.shown_is;
      left_is = behind.left_is;
      link_is = λ k e. link_stays config base.head r (wants_of x.wants) x.change (turn_of changes x.after) k o up (sym (link_undelayed base.head) ∙ e);
      lead_on = λ d on. leads_on config base.head r changes x o up off;
      faults_agree = behind.faults_agree;
      errors = behind.errors;
      fallen = behind.fallen;
    }
