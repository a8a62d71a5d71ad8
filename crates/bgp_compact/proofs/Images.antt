-- The members behind a record are what the record makes of those before.
use Rattle.std.proofs.Common.{◌≡◌, ◌⊎◌, inl, inr, Bool, true, false, IsTrue, List, [], ◌∷◌, Option, None, Some, refl, sym, ap, subst, ◌∙◌}
use Rattle.std.specs.Prelude.{IfOk, IsSome, Result, Ok, Err}
use Rattle.bgp_prefix.specs.Shown.{ShownRecord, Received, Sent, Changed, second_of}
use Rattle.bgp_open.specs.declared.config.Config.{Config}
use Rattle.bgp_open.specs.declared.families.Families.{Families}
use Rattle.bgp_open.specs.declared.link.Link.{Link}
use Rattle.bgp_update.specs.declared.outcomes.Changes.{Changes}
use Rattle.bgp_update.specs.Changes.{RouteChanges}
use Rattle.bgp_machine.specs.declared.fsm.Fsm.{Fsm}
use Rattle.bgp_machine.specs.declared.fsm.Fsm.TheVariants as fsms
use Rattle.bgp_machine.specs.declared.state.Head.{Head}
use Rattle.bgp_machine.specs.declared.state.Head.TheVariants.{Idle}
use Rattle.bgp_machine.specs.declared.want.FaultSet.{FaultSet}
use Rattle.bgp_machine.specs.declared.want.Want.TheVariants as wants
use Rattle.bgp_machine.specs.Going.{told, shown_after, undelayed}
use Rattle.bgp_machine.specs.Listed.{changes_of, no_changes}
use Rattle.bgp_machine.specs.Lists.{Has}
use Rattle.bgp_machine.specs.Rows.{silent_heads}
use Rattle.bgp_machine.specs.Run.{End, Silent, is_delayed}
use Rattle.bgp_machine.specs.State.{SessionState, Turn, enters, fsm_of, link_at, moved}
use Rattle.bgp_machine.specs.Want.{wants_of}
use Rattle.bgp_machine.proofs.Moves.{after_no_changes}
use Rattle.bgp_machine.proofs.Quiet.{lists_silent, quiet, self_listed}
use Rattle.bgp_rib.specs.Routes.{Routes, no_routes, routes_after, routes_without}
use Rattle.bgp_judge.specs.Image.{Covers, IsImage}
use Rattle.bgp_judge.specs.Member.{Member}
use Rattle.bgp_judge.specs.Next.{Next, Starts}
use Rattle.bgp_judge.proofs.Standing.{silent_end}
use Rattle.bgp_compact.specs.declared.base.Base.{Base}
use Rattle.bgp_compact.specs.declared.falls.Fall.{Fall}
use Rattle.bgp_compact.specs.declared.falls.Fall.TheVariants.{Erred, Faulted}
use Rattle.bgp_compact.specs.declared.words.Words.{Words}
use Rattle.bgp_compact.specs.Disabled.{holds}
use Rattle.bgp_compact.specs.Members.{HasFall, GoesOn, IsMember, fallen_member, left_of, left_where, error_of}
use Rattle.bgp_compact.specs.Members.IsMember.{Front, Fallen}
use Rattle.bgp_compact.specs.Parts.{AreFine, HasNoBase, IsBase, PaidTo, free_member}
use Rattle.bgp_compact.specs.Standing.{IsTableOf}
use Rattle.bgp_compact.specs.Steps.{AreBehind, FromHead, FromLate, Gains, LeadsToFaults}
use Rattle.bgp_compact.proofs.AllPaid.{shows_up}
use Rattle.bgp_compact.proofs.FallsPaid.{left_twice}
use Rattle.bgp_compact.proofs.Listing.{IsLate, late_is, not_two, self_or_late}
use Rattle.bgp_compact.proofs.Notes.{IsNote, ends_delayed}
use Rattle.bgp_compact.proofs.Opened.{OpensHidden, hidden_no_faults}
use Rattle.bgp_compact.proofs.Rows.{hidden_sends}
use Rattle.bgp_compact.proofs.StepLoops.{has_each}
use Rattle.bgp_compact.proofs.Stepping.{shown_left}
use Rattle.bgp_compact.proofs.Ways.{fsm_undelayed, is_idle, leads_up, link_undelayed}

-- ---- members that go on alone look at the table

pub any_table : (n : Words) (table other : Routes) (m : Member) → ((d : Families) → GoesOn n d → ⊥) → IsMember n table m → IsMember n other m
any_table n table other m none h = elim h [ Front d on e ↦ absurd (none d on) | Fallen f has e ↦ Fallen f has e ]

-- where some have nothing left to show, none goes on that had something
pub none_paid : (config : Config) (n : Words) (r : ShownRecord) (next : Words) (base : Base) → PaidTo config n r next → IsBase n base → (d : Families) → GoesOn next d → ⊥
none_paid config n r next base paid is d on = elim is.alone [
  | inl idle ↦ (shows_up n.shown n.sets d (paid.went_on d on)).0 idle
  | inr free ↦ paid.owed d on free
]

-- ---- behind the payment

stays_left : (config : Config) (n : Words) (r : ShownRecord) (next : Words) (fall : Fall) → PaidTo config n r next → HasFall next.falls fall → left_of next ≡ left_of n
stays_left config n r next fall paid has = elim (paid.stays fall has) [
  | inl a ↦ ap (λ (v : Fsm). left_where v next.left) a ∙ ap (λ (v : Fsm). left_where n.shown v) paid.left_is ∙ left_twice n.shown n.left
  | inr b ↦ ap (λ (v : Fsm). left_where v next.left) b ∙ paid.left_is
]

paid_errors : (config : Config) (n : Words) (r : ShownRecord) (next : Words) → AreFine n → PaidTo config n r next → HasFall next.falls Erred → error_of (left_of next) ≡ [] → ⊥
paid_errors config n r next fine paid has none = elim (paid.falls Erred has) [
  | inl e ↦ (let k : ⊥ = cc in k)
  | inr old ↦ fine.errors old (sym (ap error_of (stays_left config n r next Erred paid has)) ∙ none)
]

pub paid_fine : (config : Config) (n : Words) (r : ShownRecord) (next : Words) → AreFine n → PaidTo config n r next → AreFine next
paid_fine config n r next fine paid = record {
  are_up = λ d on e. fine.are_up d (paid.went_on d on) (sym (ap fsm_of paid.head_is) ∙ e);
  undelayed = λ d on. ap is_delayed paid.head_is ∙ fine.undelayed d (paid.went_on d on);
  errors = λ has none. paid_errors config n r next fine paid has none;
  stay_up = λ d on e.
      ap fsm_of paid.head_is ∙ elim (paid.show d on) [ inl a ↦ fine.stay_up d (paid.went_on d on) (sym a ∙ e) | inr b ↦ sym b ∙ e ];
}

no_faults_sent : (config : Config) (before : Head) (r : ShownRecord) (t : FaultSet) (still : Option (Fsm × Fsm)) (turn : Turn)
    → OpensHidden config before r (wants.Faults t ∷ []) still turn → ⊥
no_faults_sent config before r t still turn o =
    hidden_no_faults config before r o.1 (wants.Faults t ∷ []) o.2 still t (hidden_sends before config (second_of r) o.0 o.1 turn o.3.0) o.4 refl

-- faults that are still owed behind the record are those of no step that it opens
paid_faults : (config : Config) (origin : Head) (n : Words) (r : ShownRecord) (next : Words) (s t : FaultSet) → PaidTo config n r next → HasFall next.falls (Faulted s)
    → LeadsToFaults config origin r t → ⊥
paid_faults config origin n (Received u octets) next s t paid has leads =
    let k = paid.sound no_routes (fallen_member next (Faulted s)) (Fallen (Faulted s) has refl) in k.2.pays
paid_faults config origin n (Sent u octets) next s t paid has leads = no_faults_sent config leads.before (Sent u octets) t leads.still leads.turn leads.opens
paid_faults config origin n (Changed u x y) next s t paid has leads = no_faults_sent config leads.before (Changed u x y) t leads.still leads.turn leads.opens

no_link : (head : Head) (link : Link) → head ≡ Idle → link_at head ≡ Some link → ⊥
no_link head link e is = let k : None ≡ Some link = sym (ap link_at e) ∙ is in cc

pub paid_behind : (config : Config) (n : Words) (r : ShownRecord) (next : Words) (base : Base) → AreFine n → PaidTo config n r next → IsBase n base
    → AreBehind config (undelayed base.head) r next
paid_behind config n r next base fine paid is =
    let name : fsm_of (undelayed base.head) ≡ n.shown = fsm_undelayed base.head ∙ is.name in
    record {
      shown_is = paid.shown_is ∙ ap (λ (v : Fsm). shown_after v (told r)) (sym name);
      left_is = λ up. paid.left_is ∙ shown_left n.shown n.left (λ z. up (name ∙ z)) ∙ sym name;
      link_is = λ k e.
          let e2 : link_at base.head ≡ Some k = sym (link_undelayed base.head) ∙ e in
          elim is.head_is [
            | inl idle ↦ absurd (no_link base.head k (is_idle base.head (is.name ∙ idle)) e2)
            | inr q ↦ ap link_at (paid.head_is ∙ sym q) ∙ e2
          ];
      lead_on = λ d on. absurd (none_paid config n r next base paid is d on);
      faults_agree = λ s t has leads. absurd (paid_faults config (undelayed base.head) n r next s t paid has leads);
      errors = λ has none. paid_errors config n r next fine paid has none;
      fallen = λ fall has. elim (paid.stays fall has) [ inl a ↦ inl (a ∙ sym name) | inr b ↦ inr b ];
    }

pub behind_fine : (config : Config) (origin : Head) (r : ShownRecord) (n : Words) → AreBehind config origin r n → AreFine n
behind_fine config origin r n behind = record {
  are_up = λ d on. (behind.lead_on d on).is_up;
  undelayed = λ d on. (behind.lead_on d on).at_once;
  errors = behind.errors;
  stay_up = λ d on e. leads_up config origin r n.head (wants_of n.wants) (behind.lead_on d on) (sym behind.shown_is ∙ e);
}

-- ---- the image, where none has nothing left to show

pub image_none : (config : Config) (r : ShownRecord) (n next : Words) (table : Routes) → PaidTo config n r next → HasNoBase n
    → IsImage config r (IsMember n table) (IsMember next (routes_after no_changes table))
image_none config r n next table paid none = subst (λ (v : Routes). IsImage config r (IsMember n table) (IsMember next v)) (sym (after_no_changes table)) (record {
  sound = λ m2 h. let k = paid.sound table m2 h in (k.0, k.1, inl k.2);
  whole = λ m m2 h next. elim next [ inl c ↦ (m2, paid.whole table m m2 h c, inl refl) | inr s ↦ absurd (none table m h s.free) ];
})

-- ---- and where some have

silent_to : (config : Config) (head h : Head) (routes : Routes) → Has (λ (v : Head). v ≡ h) (silent_heads config head)
    → Silent config (record { head = head; routes = routes }) (record { head = h; routes = routes })
silent_to config head h routes has =
    let k = has_each (λ (v : Head). v ≡ h) (λ v. Silent config (record { head = head; routes = routes }) (record { head = v; routes = routes })) (silent_heads config head) has
    (lists_silent config head routes).each in
    subst (λ (v : Head). Silent config (record { head = head; routes = routes }) (record { head = v; routes = routes })) k.1 k.2

starts_from : (config : Config) (r : ShownRecord) (n : Words) (table : Routes) (base : Base) (h : Head) (m2 : Member) → IsBase n base → IsTableOf n table
    → Has (λ (v : Head). v ≡ h) (silent_heads config base.head) → FromHead config (record base { head = h }) r table m2 → (m : Member) × IsMember n table m × Next config r m m2
starts_from config r n table base h m2 is of has f = (
  free_member base.head table f.families,
  is.to table of f.families f.held,
  inr (record {
    free = (refl, refl);
    before = record { head = h; routes = routes_without f.families table };
    silent = silent_to config base.head h (routes_without f.families table) has;
    turn = f.turn;
    opens = f.opens;
    state = f.state;
    link = f.link;
  }),
)

late_listed : (head late : Head) (heads : List Head) → heads ≡ head ∷ late ∷ [] → Has (λ (v : Head). v ≡ late) heads
late_listed head late heads e = subst (λ (v : List Head). Has (λ (x : Head). x ≡ late) v) (sym e) (inr (inl refl))

-- a step that ends at once
start_at_once : (config : Config) (r : ShownRecord) (base : Base) (table : Routes) (d : Families) (m2 : Member) → IsTrue (holds base.sets d)
    → (s : Starts config r (free_member base.head table d) m2) → is_delayed s.turn.head ≡ false
    → Has (λ (v : Head). v ≡ s.before.head) (silent_heads config base.head) × FromHead config (record base { head = s.before.head }) r table m2
start_at_once config r base table d m2 held s off =
    let q = quiet config s.silent.steps (record { head = base.head; routes = routes_without d table }) s.before s.silent.are_steps s.silent.shows in
    let e : s.before ≡ record { head = s.before.head; routes = routes_without d table } = λ i. record { head = s.before.head; routes = q.0 i } in (
      q.1,
      record {
        families = d;
        held = held;
        turn = s.turn;
        at_once = off;
        opens = s.opens;
        state = s.state ∙ ap (λ (v : SessionState). moved v s.turn) e;
        link = s.link;
      },
    )

-- one that ends delayed is a note: the note that isn't delayed covers it
start_delayed : (config : Config) (r : ShownRecord) (n : Words) (base : Base) (table : Routes) (d : Families) (m2 : Member) → IsBase n base → IsTrue (holds base.sets d)
    → (s : Starts config r (free_member base.head table d) m2) → IsTrue (is_delayed s.turn.head)
    → FromHead config base r table (free_member base.head table d) × Covers config (free_member base.head table d) m2
start_delayed config r n base table d m2 is held s on =
    let note : IsNote config s.before.head r m2.wants m2.change s.turn = ends_delayed config s.before.head r m2.wants m2.change s.turn s.opens on in
    let name : fsm_of s.before.head ≡ fsm_of base.head =
    ap (λ (v : End). v.fsm) (silent_end config (record { head = base.head; routes = routes_without d table }) s.before s.silent) in
    let st : m2.state ≡ s.before = s.state ∙ ap (λ (v : Turn). moved s.before v) note.turn_is in (
      record {
        families = d;
        held = held;
        turn = enters base.head;
        at_once = is.undelayed;
        opens = note.again base.head (sym name);
        state = refl;
        link = refl;
      },
      inr ((refl, refl), (note.left_is, note.still_is), subst (λ (v : SessionState). Silent config (free_member base.head table d).state v) (sym st) s.silent),
    )

true_or_false : (b : Bool) → (b ≡ true) ⊎ (b ≡ false)
true_or_false true = inl refl
true_or_false false = inr refl

whole_start : (config : Config) (r : ShownRecord) (n next mid last : Words) (table after : Routes) (base : Base) (d : Families) (m2 : Member) → IsBase n base
    → IsTrue (holds base.sets d) → Starts config r (free_member base.head table d) m2
    → Gains next mid after (FromHead config base r table) → Gains mid last after (FromLate config base r table)
    → (m3 : Member) × IsMember last after m3 × Covers config m3 m2
whole_start config r n next mid last table after base d m2 is held s g1 g2 = elim (true_or_false (is_delayed s.turn.head)) [
  | inl on ↦
      let k = start_delayed config r n base table d m2 is held s on in
      (free_member base.head table d, g2.keeps (free_member base.head table d) (g1.adds (free_member base.head table d) k.0), k.1)
  | inr off ↦
      let k = start_at_once config r base table d m2 held s off in
      elim (self_or_late config base.head s.before.head is.undelayed k.0) [
        | inl e ↦ (
          m2,
          g2.keeps m2 (g1.adds m2 (subst (λ (v : Head). FromHead config (record base { head = v }) r table m2) e k.1)),
          inl refl,
        )
        | inr e ↦ (m2, g2.adds m2 (s.before.head, e, k.1), inl refl)
      ]
]

pub image_some : (config : Config) (r : ShownRecord) (n next mid last : Words) (table after : Routes) (base : Base) → PaidTo config n r next → IsBase n base → IsTableOf n table
    → Gains next mid after (FromHead config base r table) → Gains mid last after (FromLate config base r table)
    → IsImage config r (IsMember n table) (IsMember last after)
image_some config r n next mid last table after base paid is of g1 g2 =
    let none : (d : Families) → GoesOn next d → ⊥ = λ d on. none_paid config n r next base paid is d on in
    record {
      sound = λ m2 h. elim (g2.only m2 h) [
        | inl h1 ↦ elim (g1.only m2 h1) [
          | inl h0 ↦ let k = paid.sound table m2 (any_table next after table m2 none h0) in (k.0, k.1, inl k.2)
          | inr f ↦ starts_from config r n table base base.head m2 is of (self_listed config base.head) f
        ]
        | inr late ↦ starts_from config r n table base late.0 m2 is of (late_listed base.head late.0 (silent_heads config base.head) late.1) late.2
      ];
      whole = λ m m2 h step. elim step [
        | inl c ↦ (m2, g2.keeps m2 (g1.keeps m2 (any_table next table after m2 none (paid.whole table m m2 h c))), inl refl)
        | inr s ↦
            let b = is.from table of m h s.free in
            whole_start config r n next mid last table after base b.0 m2 is b.1 (subst (λ (v : Member). Starts config r v m2) b.2 s) g1 g2
      ];
    }

-- ---- members whose OPEN was delayed

pub gains_no_late : (config : Config) (r : ShownRecord) (n : Words) (table after : Routes) (base : Base) → silent_heads config base.head ≡ base.head ∷ []
    → Gains n n after (FromLate config base r table)
gains_no_late config r n table after base e = record {
  only = λ m h. inl h;
  keeps = λ m h. h;
  adds = λ m late. absurd (not_two base.head late.0 (sym e ∙ late.1));
}

none_given : {X : Type 0} (given : Option (Changes X)) → (IsSome given → ⊥) → changes_of given ≡ no_changes
none_given None f = refl
none_given (Some c) f = absurd (f refl)

pub gains_late : {X : Type 0} (config : Config) (r : ShownRecord) (n n2 : Words) (table : Routes) (base : Base) (late : Head) (first second : Option (Changes X)) → IsLate base.head late
    → silent_heads config base.head ≡ base.head ∷ late ∷ []
    → (IsSome first → fsm_of base.head ≡ fsms.Established) → (IsSome second → fsm_of late ≡ fsms.Established)
    → Gains n n2 (routes_after (changes_of second) table) (FromHead config (record base { head = late }) r table)
    → Gains n n2 (routes_after (changes_of first) table) (FromLate config base r table)
gains_late config r n n2 table base late first second is e f s g =
    let a : changes_of first ≡ no_changes = none_given first (λ k. is.waits (f k)) in
    let b : changes_of second ≡ no_changes = none_given second (λ k. is.late_waits (s k)) in
    let g2 : Gains n n2 (routes_after (changes_of first) table) (FromHead config (record base { head = late }) r table) =
    subst (λ (v : RouteChanges). Gains n n2 (routes_after v table) (FromHead config (record base { head = late }) r table)) (b ∙ sym a) g in
    record {
      only = λ m h. elim (g2.only m h) [ inl k ↦ inl k | inr k ↦ inr (late, e, k) ];
      keeps = g2.keeps;
      adds = λ m k. g2.adds m (subst (λ (v : Head). FromHead config (record base { head = v }) r table m) (late_is base.head late k.0 (sym e ∙ k.1)) k.2);
    }

pub if_ok_both : {X E : Type 0} (r : Result X E) (P Q R : X → Type 0) → IfOk r P → IfOk r Q → ((x : X) → P x → Q x → R x) → IfOk r R
if_ok_both (Ok x) P Q R p q f = f x p q
if_ok_both (Err e) P Q R p q f = tt
