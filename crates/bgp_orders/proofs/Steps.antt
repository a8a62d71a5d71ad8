-- Nodes in lists, and what one more item makes of a node.
use Rattle.std.proofs.Common.{◌≡◌, ◌≢◌, ◌↔◌, ◌⊎◌, inl, inr, ℕ, ◌+◌, Bool, true, false, List, [], ◌∷◌, ◌++◌, Option, None, Some, IsSomeAnd, MatchOption, Result, Ok, Err, IfOk, OnOk, ◌<◌, ◌≤◌, zero, suc, slice_get, arith, drop, take, get_or, length, map, max, refl, sym, ap, subst, ◌∙◌, append-nil, append_assoc}
use Rattle.std.specs.Borrow.{Bor}
use Rattle.std.specs.Slice.{IsItemAt}
use Rattle.std.proofs.lemmas.List.{map-append, nil_from_length, take_more}
use Rattle.bgp_prefix.specs.Shown as shown
use Rattle.bgp_prefix.specs.Shown.{ShownRecord}
use Rattle.mrt.specs.Reader.{shown_of}
use Rattle.streams.specs.declared.connection.End.{End}
use Rattle.bgp_open.specs.declared.config.Config.{Config}
use Rattle.bgp_machine.specs.Lists.{Has}
use Rattle.bgp_machine.proofs.RowByRow.{has_left, has_right, has_either}
use Rattle.bgp_recording.specs.declared.message.Message.{Message}
use Rattle.bgp_recording.specs.declared.ordering.Exchange.{Exchange}
use Rattle.bgp_recording.specs.declared.state.State.{State}
use Rattle.bgp_recording.specs.Changes.{led_by_sent, led_by_end, led_by_left, are_left, state_then}
use Rattle.bgp_recording.specs.First.{IsFirst}
use Rattle.bgp_recording.specs.States.{state_number}
use Rattle.bgp_recording.specs.Leads.{MayReceiveNext, MaySendNext, MayEndNext, MayReceive, MayPass}
use Rattle.bgp_recording.proofs.Lists.{first_is}
use Rattle.bgp_judge.specs.declared.member.PlainMember.{PlainMember}
use Rattle.bgp_judge.specs.Chains.{Reaches, bare, BareReaches}
use Rattle.bgp_judge.specs.Member.{Member, IsFree}
use Rattle.bgp_judge.specs.Next.{Next}
use Rattle.bgp_judge.specs.Plain.{Among, member_value}
use Rattle.bgp_judge.proofs.Chains.{bare_chains}
use Rattle.bgp_orders.specs.declared.node.Node.{Node as CodeNode}
use Rattle.bgp_orders.specs.declared.node.Spot.{Spot}
use Rattle.bgp_orders.specs.Nodes.{Node, Hears, Says, Ends, after_received, after_sent, after_end}
use Rattle.bgp_orders.specs.Rows.{HasSome, IsOf, IsIn, IsMade, IsOfPlace, Passes, GainsNodes, LeadTo, end_left, node_at, pending_at}
use Rattle.bgp_orders.specs.declared.search.Ending.{Ending}
use Rattle.bgp_orders.specs.declared.search.Turn.{Turn}
use Rattle.bgp_orders.specs.Turns.{Hearing, Saying, Closing, led_at, heard_spot, said_spot, ended_spot}
use Rattle.bgp_orders.specs.Ways.{changed_to, received_records, sent_records, end_records}

-- ---- lists of nodes that grow

pub gains_keeps : {X : Type 0} (exchange : Exchange) (old new : List (CodeNode X)) (Also : Node → Type 0) (n : Node) → GainsNodes exchange old new Also → IsIn exchange old n → IsIn exchange new n
gains_keeps exchange old new Also n g h =
    subst (λ (v : List (CodeNode _)). IsIn exchange v n) (sym g.joined) (has_left (λ node. IsOf exchange node n) old g.more h)

pub gains_either : {X : Type 0} (exchange : Exchange) (old new : List (CodeNode X)) (Also : Node → Type 0) (n : Node) → GainsNodes exchange old new Also → IsIn exchange new n → IsIn exchange old n ⊎ Also n
gains_either exchange old new Also n g h =
    elim (has_either (λ node. IsOf exchange node n) old g.more (subst (λ (v : List (CodeNode _)). IsIn exchange v n) g.joined h)) [
      | inl a ↦ inl a
      | inr b ↦ inr (g.only n b)
    ]

pub gains_same : {X : Type 0} (exchange : Exchange) (old new : List (CodeNode X)) (P Q : Node → Type 0) → GainsNodes exchange old new P → ((n : Node) → P n ↔ Q n) → GainsNodes exchange old new Q
gains_same exchange old new P Q g same = record {
  more = g.more;
  joined = g.joined;
  only = λ n h. (same n).0 (g.only n h);
  adds = λ n h. g.adds n ((same n).1 h);
}

pub gains_nothing : {X : Type 0} (exchange : Exchange) (old : List (CodeNode X)) (Also : Node → Type 0) → ((n : Node) → Also n → ⊥) → GainsNodes exchange old old Also
gains_nothing exchange old Also none = record {
  more = [];
  joined = sym (append-nil old);
  only = λ n h. absurd h;
  adds = λ n h. absurd (none n h);
}

pub gains_there : {X : Type 0} (exchange : Exchange) (old : List (CodeNode X)) (x : Node) → IsIn exchange old x → GainsNodes exchange old old (λ n. n ≡ x)
gains_there exchange old x there = record {
  more = [];
  joined = sym (append-nil old);
  only = λ n h. absurd h;
  adds = λ n e. subst (λ (v : Node). IsIn exchange old v) (sym e) there;
}

pub gains_both : {X : Type 0} (exchange : Exchange) (a b c : List (CodeNode X)) (P Q : Node → Type 0) → GainsNodes exchange a b P → GainsNodes exchange b c Q → GainsNodes exchange a c (λ n. P n ⊎ Q n)
gains_both exchange a b c P Q g h = record {
  more = g.more ++ h.more;
  joined = h.joined ∙ ap (λ (v : List (CodeNode _)). v ++ h.more) g.joined ∙ append_assoc a g.more h.more;
  only = λ n k. elim (has_either (λ node. IsOf exchange node n) g.more h.more k) [
    | inl x ↦ inl (g.only n x)
    | inr y ↦ inr (h.only n y)
  ];
  adds = λ n k. elim k [
    | inl x ↦ gains_keeps exchange b c Q n h (g.adds n x)
    | inr y ↦ h.adds n y
  ];
}

-- a node with one member
pub one_of : {X : Type 0} (exchange : Exchange) (spot : Spot) (x : PlainMember X) (members : List (PlainMember X)) (n : Node) → members ≡ x ∷ []
    → ((m : Member) × Among members m × (n ≡ node_at exchange spot m)) ↔ (n ≡ node_at exchange spot (member_value x))
one_of exchange spot x members n e = (
  λ k. elim (subst (λ (v : List (PlainMember _)). Among v k.0) e k.1) [
    | inl is ↦ k.2 ∙ ap (λ (m : Member). node_at exchange spot m) (sym is)
    | inr none ↦ absurd none
  ],
  λ is. (member_value x, subst (λ (v : List (PlainMember _)). Among v (member_value x)) (sym e) (inl refl), is),
)

pub gains_here : {X : Type 0} (exchange : Exchange) (old new : List (CodeNode X)) (node : CodeNode X) → new ≡ old ++ node ∷ [] → GainsNodes exchange old new (IsOf exchange node)
gains_here exchange old new node e = record {
  more = node ∷ [];
  joined = e;
  only = λ n h. elim h [ inl k ↦ k | inr none ↦ absurd none ];
  adds = λ n k. subst (λ (v : List (CodeNode _)). IsIn exchange v n) (sym e) (has_right (λ x. IsOf exchange x n) old (node ∷ []) (inl k));
}

pub gains_one : {X : Type 0} (exchange : Exchange) (old new : List (CodeNode X)) (node : CodeNode X) (spot : Spot) (x : PlainMember X) → new ≡ old ++ node ∷ [] → node.spot ≡ spot → node.members.items ≡ x ∷ []
    → GainsNodes exchange old new (λ n. n ≡ node_at exchange spot (member_value x))
gains_one exchange old new node spot x e same one =
    subst (λ (s : Spot). GainsNodes exchange old new (λ n. n ≡ node_at exchange s (member_value x))) same
    (gains_same exchange old new (IsOf exchange node) (λ n. n ≡ node_at exchange node.spot (member_value x)) (gains_here exchange old new node e) (λ n. one_of exchange node.spot x node.members.items n one))

-- the last one of a list
pub last_of : {X : Type 0} (exchange : Exchange) (nodes left : List (CodeNode X)) (node : CodeNode X) (spot : Spot) (m : Member) → nodes ≡ left ++ node ∷ [] → node.spot ≡ spot
    → Among node.members.items m → IsIn exchange nodes (node_at exchange spot m)
last_of exchange nodes left node spot m e same among =
    subst (λ (v : List (CodeNode _)). IsIn exchange v (node_at exchange spot m)) (sym e)
    (has_right (λ x. IsOf exchange x (node_at exchange spot m)) left (node ∷ []) (inl (m, among, ap (λ (s : Spot). node_at exchange s m) (sym same))))

pub others_of : {X : Type 0} (exchange : Exchange) (nodes left : List (CodeNode X)) (node : CodeNode X) (n : Node) → nodes ≡ left ++ node ∷ [] → IsIn exchange left n → IsIn exchange nodes n
others_of exchange nodes left node n e h =
    subst (λ (v : List (CodeNode _)). IsIn exchange v n) (sym e) (has_left (λ x. IsOf exchange x n) left (node ∷ []) h)

-- members that are taken away one after another
pub record AreAdded {X : Type 0} (spot : Spot) (members left : List (PlainMember X)) (old new : List (CodeNode X)) : Type 0 where
  pub gone : List (PlainMember X)
  pub joined : left ++ gone ≡ members
  pub gains : (exchange : Exchange) → GainsNodes exchange old new (λ n. (m : Member) × Among gone m × (n ≡ node_at exchange spot m))

pub none_added : {X : Type 0} (spot : Spot) (members : List (PlainMember X)) (old : List (CodeNode X)) → AreAdded spot members members old old
none_added spot members old = record {
  gone = [];
  joined = append-nil members;
  gains = λ exchange. gains_nothing exchange old _ (λ n h. absurd h.1);
}

pub one_added : {X : Type 0} (spot : Spot) (members left rest : List (PlainMember X)) (x : PlainMember X) (old mid new : List (CodeNode X)) (added : Member) → left ≡ rest ++ x ∷ []
    → added ≡ bare (member_value x) → ((exchange : Exchange) → GainsNodes exchange mid new (λ n. n ≡ node_at exchange spot added))
    → AreAdded spot members left old mid → AreAdded spot members rest old new
one_added spot members left rest x old mid new added e is gains k = record {
  gone = x ∷ k.gone;
  joined = sym (append_assoc rest (x ∷ []) k.gone) ∙ ap (λ (v : List (PlainMember _)). v ++ k.gone) (sym e) ∙ k.joined;
  gains = λ exchange. gains_same exchange old new _ _ (gains_both exchange old mid new _ _ (k.gains exchange) (gains exchange)) (λ n. (
    λ h. elim h [
      | inl a ↦ (a.0, inr a.1, a.2)
      | inr b ↦ (member_value x, inl refl, b ∙ ap (λ (m : Member). node_at exchange spot m) is)
    ],
    λ h. elim h.1 [
      | inl p ↦ inr (h.2 ∙ ap (λ (m : Member). node_at exchange spot m) (sym p) ∙ sym (ap (λ (m : Member). node_at exchange spot m) is))
      | inr a ↦ inl (h.0, a, h.2)
    ],
  ));
}

pub all_added : {X : Type 0} (spot : Spot) (members left : List (PlainMember X)) (old new : List (CodeNode X)) (exchange : Exchange) → left ≡ []
    → AreAdded spot members left old new → GainsNodes exchange old new (λ n. (m : Member) × Among members m × (n ≡ node_at exchange spot m))
all_added spot members left old new exchange e k =
    let is : k.gone ≡ members = ap (λ (v : List (PlainMember _)). v ++ k.gone) (sym e) ∙ k.joined in
    subst (λ (v : List (PlainMember _)). GainsNodes exchange old new (λ n. (m : Member) × Among v m × (n ≡ node_at exchange spot m))) is (k.gains exchange)

-- ---- members that have shown all

pub free_among : {X : Type 0} (members : List (PlainMember X)) → Has (λ x. IsFree (member_value x)) members → (m : Member) × Among members m × IsFree m
free_among [] h = absurd h
free_among (x ∷ xs) h = elim h [
  | inl free ↦ (member_value x, inl refl, free)
  | inr k ↦ let y = free_among xs k in (y.0, inr y.1, y.2)
]

pub among_free : {X : Type 0} (members : List (PlainMember X)) (m : Member) → Among members m → IsFree m → Has (λ x. IsFree (member_value x)) members
among_free [] m h free = absurd h
among_free (x ∷ xs) m h free = elim h [
  | inl is ↦ inl (subst (λ (v : Member). IsFree v) (sym is) free)
  | inr k ↦ inr (among_free xs m k free)
]

-- ---- nodes that have members

pub first_member : {X : Type 0} (members : List (PlainMember X)) → members ≢ [] → (m : Member) × Among members m
first_member [] some = absurd (some refl)
first_member (x ∷ xs) some = (member_value x, inl refl)

pub node_of_some : {X : Type 0} (exchange : Exchange) (nodes : List (CodeNode X)) → HasSome nodes → (n : Node) × IsIn exchange nodes n
node_of_some exchange [] h = absurd h
node_of_some exchange (x ∷ xs) h = elim h [
  | inl some ↦ let m = first_member x.members.items some in (node_at exchange x.spot m.0, inl (m.0, m.1, refl))
  | inr k ↦ let y = node_of_some exchange xs k in (y.0, inr y.1)
]

pub some_of_node : {X : Type 0} (exchange : Exchange) (nodes : List (CodeNode X)) (n : Node) → IsIn exchange nodes n → HasSome nodes
some_of_node exchange [] n h = absurd h
some_of_node exchange (x ∷ xs) n h = elim h [
  | inl is ↦ inl (λ none. subst (λ (v : List (PlainMember _)). Among v is.0) none is.1)
  | inr k ↦ inr (some_of_node exchange xs n k)
]

-- ---- chains of records

pub leads_nowhere : {X : Type 0} (config : Config) (members next : List (PlainMember X)) → ((m : Member) → Among next m ↔ Among members m) → LeadTo config [] members next
leads_nowhere config members next same m2 = (
  λ h. (m2, (same m2).0 h, refl),
  λ h. (same m2).1 (subst (λ (v : Member). Among members v) h.2 h.1),
)

pub leads_on : {X : Type 0} (config : Config) (r : ShownRecord) (records : List ShownRecord) (members mid next : List (PlainMember X))
    → LeadTo config (r ∷ []) members mid → LeadTo config records mid next → LeadTo config (r ∷ records) members next
leads_on config r records members mid next one more m2 = (
  λ h.
      let a = (more m2).0 h in
      let b = (one a.0).0 a.1 in
      let k = b.2 in
      (b.0, b.1, (k.0, k.1, subst (λ (v : Member). Reaches config v records m2) (sym k.2) a.2)),
  λ h.
      let k = h.2 in
      (more m2).1 (k.0, (one k.0).1 (h.0, h.1, (k.0, k.1, refl)), k.2),
)

reaches_join : (config : Config) (m mid last : Member) (front later : List ShownRecord) → Reaches config m front mid → Reaches config mid later last → Reaches config m (front ++ later) last
reaches_join config m mid last [] later e rest = subst (λ (v : Member). Reaches config v later last) (sym e) rest
reaches_join config m mid last (r ∷ front) later k rest = (k.0, k.1, reaches_join config k.0 mid last front later k.2 rest)

reaches_part : (config : Config) (m last : Member) (front later : List ShownRecord) → Reaches config m (front ++ later) last
    → (mid : Member) × Reaches config m front mid × Reaches config mid later last
reaches_part config m last [] later rest = (m, refl, rest)
reaches_part config m last (r ∷ front) later k =
    let x = reaches_part config k.0 last front later k.2 in
    (x.0, (k.0, k.1, x.1), x.2)

pub leads_both : {X : Type 0} (config : Config) (front later : List ShownRecord) (members mid next : List (PlainMember X))
    → LeadTo config front members mid → LeadTo config later mid next → LeadTo config (front ++ later) members next
leads_both config front later members mid next one more m2 = (
  λ h.
      let a = (more m2).0 h in
      let b = (one a.0).0 a.1 in
      (b.0, b.1, reaches_join config b.0 a.0 m2 front later b.2 a.2),
  λ h.
      let k = reaches_part config h.0 m2 front later h.2 in
      (more m2).1 (k.0, (one k.0).1 (h.0, h.1, k.1), k.2),
)

-- what one record makes of members
pub by_record : {X : Type 0} (config : Config) (r : ShownRecord) (members slice next : List (PlainMember X)) → slice ≡ members
    → ((m2 : Member) → Among next m2 ↔ ((m : Member) × Among slice m × Next config r m m2)) → LeadTo config (r ∷ []) members next
by_record config r members slice next e just m2 = (
  λ h. let k = (just m2).0 h in (k.0, subst (λ (v : List (PlainMember _)). Among v k.0) e k.1, (m2, k.2, refl)),
  λ h.
      let k = h.2 in
      (just m2).1 (h.0, subst (λ (v : List (PlainMember _)). Among v h.0) (sym e) h.1, subst (λ (v : Member). Next config r h.0 v) k.2 k.1),
)

pub by_change : {X : Type 0} (config : Config) (second old new : ℕ) (state after : State) (led : Option State) (members slice next : List (PlainMember X)) → led ≡ Some after
    → old ≡ state_number state → new ≡ state_number after → slice ≡ members
    → ((m2 : Member) → Among next m2 ↔ ((m : Member) × Among slice m × Next config (shown.Changed second old new) m m2))
    → LeadTo config (changed_to second state led) members next
by_change config second old new state after led members slice next is a b e just =
    subst (λ (v : Option State). LeadTo config (changed_to second state v) members next) (sym is)
    (subst (λ (v : ℕ). LeadTo config (shown.Changed second (state_number state) v ∷ []) members next) b
    (subst (λ (v : ℕ). LeadTo config (shown.Changed second v new ∷ []) members next) a
    (by_record config (shown.Changed second old new) members slice next e just)))

pub by_no_change : {X : Type 0} (config : Config) (second : ℕ) (state : State) (led : Option State) (members : List (PlainMember X)) → led ≡ None
    → LeadTo config (changed_to second state led) members members
by_no_change config second state led members is =
    subst (λ (v : Option State). LeadTo config (changed_to second state v) members members) (sym is) (leads_nowhere config members members (λ m. (λ h. h, λ h. h)))

-- copies of members are the same ones
pub among_map : {X : Type 0} (members : List (PlainMember X)) (m : Member) → Among members m ↔ Has (λ x. x ≡ m) (map member_value members)
among_map [] m = (λ h. h, λ h. h)
among_map (x ∷ xs) m = (
  λ h. elim h [ inl a ↦ inl a | inr b ↦ inr ((among_map xs m).0 b) ],
  λ h. elim h [ inl a ↦ inl a | inr b ↦ inr ((among_map xs m).1 b) ],
)

pub by_copies : {X : Type 0} (config : Config) (members copies : List (PlainMember X)) → map member_value copies ≡ map member_value members → LeadTo config [] members copies
by_copies config members copies e = leads_nowhere config members copies (λ m. (
  λ h. (among_map members m).1 (subst (λ (v : List Member). Has (λ x. x ≡ m) v) e ((among_map copies m).0 h)),
  λ h. (among_map copies m).1 (subst (λ (v : List Member). Has (λ x. x ≡ m) v) (sym e) ((among_map members m).0 h)),
))

pub one_copied : {X : Type 0} (members copies new : List (PlainMember X)) (x d : PlainMember X) (i : ℕ) → i < length members → new ≡ copies ++ x ∷ []
    → member_value x ≡ member_value (get_or members i d) → map member_value copies ≡ map member_value (take i members) → map member_value new ≡ map member_value (take (i + 1) members)
one_copied members copies new x d i lt e is so_far =
    ap (λ (v : List (PlainMember _)). map member_value v) e
    ∙ map-append member_value copies (x ∷ [])
    ∙ ap (λ (v : List Member). v ++ member_value x ∷ []) so_far
    ∙ ap (λ (v : Member). map member_value (take i members) ++ v ∷ []) is
    ∙ sym (map-append member_value (take i members) (get_or members i d ∷ []))
    ∙ sym (ap (λ (v : List (PlainMember _)). map member_value v) (take_more members i d lt))

pub by_end : {X : Type 0} (config : Config) (second : ℕ) (state ended : State) (led left : Option State) (are : Bool) (members copies changed next : List (PlainMember X))
    → led ≡ led_by_end state → ended ≡ state_then state led → left ≡ led_by_left state are → map member_value copies ≡ map member_value members
    → LeadTo config (changed_to second state led) copies changed → LeadTo config (changed_to second ended left) changed next
    → LeadTo config (end_records second state are) members next
by_end config second state ended led left are members copies changed next a b c same one more =
    let to : LeadTo config (changed_to second state (led_by_end state)) copies changed = subst (λ (v : Option State). LeadTo config (changed_to second state v) copies changed) a one in
    let on : LeadTo config (changed_to second (state_then state (led_by_end state)) (led_by_left state are)) changed next =
    subst (λ (v : Option State). LeadTo config (changed_to second (state_then state v) (led_by_left state are)) changed next) a
    (subst (λ (v : State). LeadTo config (changed_to second v (led_by_left state are)) changed next) b
    (subst (λ (v : Option State). LeadTo config (changed_to second ended v) changed next) c more)) in
    leads_both config [] (end_records second state are) members copies next (by_copies config members copies same)
    (leads_both config (changed_to second state (led_by_end state)) (changed_to second (state_then state (led_by_end state)) (led_by_left state are)) copies changed next to on)

pub if_ok : {T E : Type 0} (r : Result T E) (P Q : T → Type 0) → ((x : T) → P x → Q x) → IfOk r P → IfOk r Q
if_ok (Ok x) P Q f h = f x h
if_ok (Err x) P Q f h = tt

pub on_ok : {T E : Type 0} (r : Result T E) (P Q : Type 0) → (P → Q) → OnOk r P → OnOk r Q
on_ok (Ok x) P Q f h = f h
on_ok (Err x) P Q f h = tt

-- nothing is left to be taken away
pub emptied : {X Y : Type 0} (r : Option Y) (xs : List X) (n m : ℕ) (Q : Y → Type 0) → r ≡ None → n ≡ length xs → MatchOption r ((n ≡ 0) × (m ≡ 0)) Q → xs ≡ []
emptied None xs n m Q e l h = nil_from_length xs (sym l ∙ h.0)
emptied (Some y) xs n m Q e l h = absurd cc

-- ---- one more item

-- the chains of members that a spot's nodes have, and those of the nodes
to_node : {X : Type 0} (config : Config) (records : List ShownRecord) (ms ms2 : List (PlainMember X)) → LeadTo config records ms ms2 → (m2 : Member) → Among ms2 m2
    → (m : Member) × Among ms m × BareReaches config (bare m) records (bare m2)
to_node config records ms ms2 leads m2 h =
    let k = (leads m2).0 h in
    (k.0, k.1, (bare_chains config records k.0 (bare m2)).1 (m2, k.2, refl))

from_node : {X : Type 0} (config : Config) (records : List ShownRecord) (ms ms2 : List (PlainMember X)) → LeadTo config records ms ms2 → (m b : Member) → Among ms m
    → BareReaches config (bare m) records b → (m2 : Member) × Among ms2 m2 × (bare m2 ≡ b)
from_node config records ms ms2 leads m b h k =
    let x = (bare_chains config records m b).0 k in
    (x.0, (leads x.0).1 (m, h, x.1), x.2)

pub same_first : (xs : List Message) (x y : Message) → IsFirst xs x → IsFirst xs y → x ≡ y
same_first [] x y h k = absurd h
same_first (z ∷ zs) x y h k = sym h ∙ k

pub first_of_list : (x y : Message) (left more : List Message) → x ∷ left ≡ y ∷ more → (x ≡ y) × (left ≡ more)
first_of_list x y left more e = (cc, cc)

-- the nodes of a spot, of which these are the members
abbrev pub AtSpot : {X : Type 0} → Exchange → Spot → List (PlainMember X) → Node → Type 0
AtSpot exchange spot members n = (m : Member) × Among members m × (n ≡ node_at exchange spot m)

abbrev pub heard_records : Exchange → Spot → Message → List ShownRecord
heard_records exchange spot x =
    received_records (max x.second spot.last) spot.state (led_at exchange spot x) x

pub hears_none : {X : Type 0} (config : Config) (exchange : Exchange) (spot : Spot) (members : List (PlainMember X)) → (MayReceiveNext (pending_at exchange spot) → ⊥)
    → (n2 : Node) → ((n : Node) × AtSpot exchange spot members n × (x : Message) × Hears config n x n2) → ⊥
hears_none config exchange spot members not n2 (n, is, x, hears) =
    let h : Hears config (node_at exchange spot is.0) x n2 = subst (λ (v : Node). Hears config v x n2) is.2 hears in
    not (x, subst (λ (v : List Message). IsFirst v x) (sym h.1) refl, h.2)

pub hears_just : {X : Type 0} (config : Config) (exchange : Exchange) (spot spot2 : Spot) (x : Message) (ms ms2 : List (PlainMember X)) → IsFirst (drop spot.place.received exchange.received.now) x
    → MayReceiveNext (pending_at exchange spot) → spot2 ≡ heard_spot exchange spot x → LeadTo config (heard_records exchange spot x) ms ms2
    → (n2 : Node) → AtSpot exchange spot2 ms2 n2 ↔ ((n : Node) × AtSpot exchange spot ms n × (y : Message) × Hears config n y n2)
hears_just config exchange spot spot2 x ms ms2 first may e leads n2 =
    let left : List Message = drop (spot.place.received + 1) exchange.received.now in
    let is : drop spot.place.received exchange.received.now ≡ x ∷ left = first_is exchange.received.now spot.place.received x first in
    let there : (m : Member) → node_at exchange spot2 m ≡ node_at exchange (heard_spot exchange spot x) m = λ m. ap (λ (s : Spot). node_at exchange s m) e in
    let came : MayReceive x (drop spot.place.sent exchange.sent.now) (end_left spot.has_ended exchange.end) =
    subst (λ (v : Message). MayReceive v (drop spot.place.sent exchange.sent.now) (end_left spot.has_ended exchange.end)) (same_first (drop spot.place.received exchange.received.now) may.0 x may.1 first) may.2 in (
      λ h.
          let k = to_node config (heard_records exchange spot x) ms ms2 leads h.0 h.1 in
          (node_at exchange spot k.0, (k.0, k.1, refl), x, (left, is, came, bare h.0, k.2, h.2 ∙ there h.0)),
      λ h.
          let at = h.1 in
          let hears : Hears config (node_at exchange spot at.0) h.2 n2 = subst (λ (v : Node). Hears config v h.2 n2) at.2 h.3 in
          let same = first_of_list h.2 x hears.0 left (sym hears.1 ∙ is) in
          let Then : Message → List Message → Type 0 = λ y rest. BareReaches config (bare at.0) (heard_records exchange spot y) hears.3 × (n2 ≡ after_received (node_at exchange spot at.0) y rest hears.3) in
          let then : Then x left = subst (λ (v : List Message). Then x v) same.1 (subst (λ (v : Message). Then v hears.0) same.0 (hears.4, hears.5)) in
          let k = from_node config (heard_records exchange spot x) ms ms2 leads at.0 hears.3 at.1 then.0 in
          (k.0, k.1, then.1 ∙ ap (λ (v : Member). after_received (node_at exchange spot at.0) x left v) (sym k.2) ∙ sym (there k.0)),
    )

-- ---- a sent message

abbrev pub said_records : Spot → Message → List ShownRecord
said_records spot x = sent_records x.second spot.state (led_by_sent spot.state x.kind spot.before) x

pub says_none : {X : Type 0} (config : Config) (within : ℕ) (exchange : Exchange) (spot : Spot) (members : List (PlainMember X)) → (MaySendNext within (pending_at exchange spot) → ⊥)
    → (n2 : Node) → ((n : Node) × AtSpot exchange spot members n × (x : Message) × Says config within n x n2) → ⊥
says_none config within exchange spot members not n2 (n, is, x, says) =
    let h : Says config within (node_at exchange spot is.0) x n2 = subst (λ (v : Node). Says config within v x n2) is.2 says in
    not (x, subst (λ (v : List Message). IsFirst v x) (sym h.1) refl, h.2)

pub says_just : {X : Type 0} (config : Config) (within : ℕ) (exchange : Exchange) (spot spot2 : Spot) (x : Message) (ms ms2 : List (PlainMember X)) → IsFirst (drop spot.place.sent exchange.sent.now) x
    → MaySendNext within (pending_at exchange spot) → spot2 ≡ said_spot spot x → LeadTo config (said_records spot x) ms ms2
    → (n2 : Node) → AtSpot exchange spot2 ms2 n2 ↔ ((n : Node) × AtSpot exchange spot ms n × (y : Message) × Says config within n y n2)
says_just config within exchange spot spot2 x ms ms2 first may e leads n2 =
    let left : List Message = drop (spot.place.sent + 1) exchange.sent.now in
    let is : drop spot.place.sent exchange.sent.now ≡ x ∷ left = first_is exchange.sent.now spot.place.sent x first in
    let there : (m : Member) → node_at exchange spot2 m ≡ node_at exchange (said_spot spot x) m = λ m. ap (λ (s : Spot). node_at exchange s m) e in
    let pass : MayPass within x.second (drop spot.place.received exchange.received.now) =
    subst (λ (v : Message). MayPass within v.second (drop spot.place.received exchange.received.now)) (same_first (drop spot.place.sent exchange.sent.now) may.0 x may.1 first) may.2 in (
      λ h.
          let k = to_node config (said_records spot x) ms ms2 leads h.0 h.1 in
          (node_at exchange spot k.0, (k.0, k.1, refl), x, (left, is, pass, bare h.0, k.2, h.2 ∙ there h.0)),
      λ h.
          let at = h.1 in
          let says : Says config within (node_at exchange spot at.0) h.2 n2 = subst (λ (v : Node). Says config within v h.2 n2) at.2 h.3 in
          let same = first_of_list h.2 x says.0 left (sym says.1 ∙ is) in
          let Then : Message → List Message → Type 0 = λ y rest. BareReaches config (bare at.0) (said_records spot y) says.3 × (n2 ≡ after_sent (node_at exchange spot at.0) y rest says.3) in
          let then : Then x left = subst (λ (v : List Message). Then x v) same.1 (subst (λ (v : Message). Then v says.0) same.0 (says.4, says.5)) in
          let k = from_node config (said_records spot x) ms ms2 leads at.0 says.3 at.1 then.0 in
          (k.0, k.1, then.1 ∙ ap (λ (v : Member). after_sent (node_at exchange spot at.0) x left v) (sym k.2) ∙ sym (there k.0)),
    )

-- ---- the end

abbrev pub ended_records : Exchange → Spot → End → List ShownRecord
ended_records exchange spot e = end_records (max e.second spot.last) spot.state (are_left (drop spot.place.received exchange.received.now))

pub some_and : (P : End → Type 0) (end : Option End) (e : End) → end ≡ Some e → P e → IsSomeAnd end P
some_and P end e is p = subst (λ (v : Option End). IsSomeAnd v P) (sym is) p

pub ends_none : {X : Type 0} (config : Config) (within : ℕ) (exchange : Exchange) (spot : Spot) (members : List (PlainMember X)) → (MayEndNext within (pending_at exchange spot) → ⊥)
    → (n2 : Node) → ((n : Node) × AtSpot exchange spot members n × (e : End) × Ends config within n e n2) → ⊥
ends_none config within exchange spot members not n2 (n, is, e, ends) =
    let h : Ends config within (node_at exchange spot is.0) e n2 = subst (λ (v : Node). Ends config within v e n2) is.2 ends in
    not (h.1, some_and (λ x. MayPass within x.second (drop spot.place.received exchange.received.now)) (end_left spot.has_ended exchange.end) e h.0 h.2)

-- the end that is left is the one of the exchange
pub left_is : (ended : Bool) (end : Option End) (e : End) (P : End → Type 0) → end ≡ Some e → IsSomeAnd (end_left ended end) P → (end_left ended end ≡ Some e) × P e
left_is true end e P is h = absurd h
left_is false end e P is h = (is, subst (λ (v : Option End). IsSomeAnd v P) is h)

pub same_some : (x y : End) → Some x ≡ Some y → x ≡ y
same_some x y h = cc

pub ends_just : {X : Type 0} (config : Config) (within : ℕ) (exchange : Exchange) (spot spot2 : Spot) (e : End) (ms ms2 : List (PlainMember X)) → exchange.end ≡ Some e
    → MayEndNext within (pending_at exchange spot) → spot2 ≡ ended_spot exchange spot e → LeadTo config (ended_records exchange spot e) ms ms2
    → (n2 : Node) → AtSpot exchange spot2 ms2 n2 ↔ ((n : Node) × AtSpot exchange spot ms n × (x : End) × Ends config within n x n2)
ends_just config within exchange spot spot2 e ms ms2 is may same leads n2 =
    let there : (m : Member) → node_at exchange spot2 m ≡ node_at exchange (ended_spot exchange spot e) m = λ m. ap (λ (s : Spot). node_at exchange s m) same in
    let left = left_is spot.has_ended exchange.end e (λ x. MayPass within x.second (drop spot.place.received exchange.received.now)) is may.1 in (
      λ h.
          let k = to_node config (ended_records exchange spot e) ms ms2 leads h.0 h.1 in
          (node_at exchange spot k.0, (k.0, k.1, refl), e, (left.0, may.0, left.1, bare h.0, k.2, h.2 ∙ there h.0)),
      λ h.
          let at = h.1 in
          let ends : Ends config within (node_at exchange spot at.0) h.2 n2 = subst (λ (v : Node). Ends config within v h.2 n2) at.2 h.3 in
          let Then : End → Type 0 = λ x. BareReaches config (bare at.0) (ended_records exchange spot x) ends.3 × (n2 ≡ after_end (node_at exchange spot at.0) x ends.3) in
          let then : Then e = subst Then (same_some h.2 e (sym ends.0 ∙ left.0)) (ends.4, ends.5) in
          let k = from_node config (ended_records exchange spot e) ms ms2 leads at.0 ends.3 at.1 then.0 in
          (k.0, k.1, then.1 ∙ ap (λ (v : Member). after_end (node_at exchange spot at.0) e v) (sym k.2) ∙ sym (there k.0)),
    )

-- ---- the same, as the code has them

pub hears_by : {X : Type 0} (config : Config) (exchange : Exchange) (spot : Spot) (turn : Turn) (ms ms2 : List (PlainMember X)) → Hearing exchange spot turn
    → LeadTo config (shown_of turn.record ∷ changed_to turn.spot.last spot.state turn.led) ms ms2
    → (n2 : Node) → AtSpot exchange turn.spot ms2 n2 ↔ ((n : Node) × AtSpot exchange spot ms n × (y : Message) × Hears config n y n2)
hears_by config exchange spot turn ms ms2 h leads =
    let x = h.message in
    let last : turn.spot.last ≡ max x.second spot.last = ap (λ (s : Spot). s.last) h.leads in
    hears_just config exchange spot turn.spot x ms ms2 h.first h.may h.leads
    (subst (λ (v : Option State). LeadTo config (received_records (max x.second spot.last) spot.state v x) ms ms2) h.led
    (subst (λ (v : ℕ). LeadTo config (shown.Received (max x.second spot.last) x.octets.now ∷ changed_to v spot.state turn.led) ms ms2) last
    (subst (λ (v : ShownRecord). LeadTo config (v ∷ changed_to turn.spot.last spot.state turn.led) ms ms2) h.shows leads)))

pub says_by : {X : Type 0} (config : Config) (within : ℕ) (exchange : Exchange) (spot : Spot) (turn : Turn) (ms ms2 : List (PlainMember X)) → Saying within exchange spot turn
    → LeadTo config (shown_of turn.record ∷ changed_to turn.spot.last spot.state turn.led) ms ms2
    → (n2 : Node) → AtSpot exchange turn.spot ms2 n2 ↔ ((n : Node) × AtSpot exchange spot ms n × (y : Message) × Says config within n y n2)
says_by config within exchange spot turn ms ms2 h leads =
    let x = h.message in
    let last : turn.spot.last ≡ x.second = ap (λ (s : Spot). s.last) h.leads in
    says_just config within exchange spot turn.spot x ms ms2 h.first h.may h.leads
    (subst (λ (v : Option State). LeadTo config (sent_records x.second spot.state v x) ms ms2) h.led
    (subst (λ (v : ℕ). LeadTo config (shown.Sent x.second x.octets.now ∷ changed_to v spot.state turn.led) ms ms2) last
    (subst (λ (v : ShownRecord). LeadTo config (v ∷ changed_to turn.spot.last spot.state turn.led) ms ms2) h.shows leads)))

pub ends_by : {X : Type 0} (config : Config) (within : ℕ) (exchange : Exchange) (spot : Spot) (ending : Ending) (ms slice ms2 : List (PlainMember X)) → Closing within exchange spot ending → slice ≡ ms
    → LeadTo config (end_records ending.spot.last spot.state ending.are_left) slice ms2
    → (n2 : Node) → AtSpot exchange ending.spot ms2 n2 ↔ ((n : Node) × AtSpot exchange spot ms n × (x : End) × Ends config within n x n2)
ends_by config within exchange spot ending ms slice ms2 h same leads =
    let e = h.end in
    let last : ending.spot.last ≡ max e.second spot.last = ap (λ (s : Spot). s.last) h.leads in
    ends_just config within exchange spot ending.spot e ms ms2 h.is h.may h.leads
    (subst (λ (v : List (PlainMember _)). LeadTo config (ended_records exchange spot e) v ms2) same
    (subst (λ (v : Bool). LeadTo config (end_records (max e.second spot.last) spot.state v) slice ms2) h.left
    (subst (λ (v : ℕ). LeadTo config (end_records v spot.state ending.are_left) slice ms2) last leads)))

-- ---- a sent message or the end

left_some : (xs : List Message) → are_left xs ≡ true → xs ≡ [] → ⊥
left_some [] h e = absurd cc
left_some (x ∷ xs) h e = absurd cc

left_none : (x : Message) (xs left : List Message) → are_left xs ≡ false → xs ≡ x ∷ left → ⊥
left_none x [] left h e = absurd cc
left_none x (y ∷ ys) left h e = absurd cc

pub passes_said : {X : Type 0} (config : Config) (within : ℕ) (exchange : Exchange) (spot : Spot) (ms : List (PlainMember X)) (Made : Node → Type 0) (are : Bool)
    → are ≡ are_left (drop spot.place.sent exchange.sent.now) → are ≡ true
    → ((n2 : Node) → Made n2 ↔ ((n : Node) × AtSpot exchange spot ms n × (x : Message) × Says config within n x n2))
    → (n2 : Node) → Made n2 ↔ ((n : Node) × AtSpot exchange spot ms n × Passes config within n n2)
passes_said config within exchange spot ms Made are some is made n2 = (
  λ h. let k = (made n2).0 h in (k.0, k.1, inl (k.2, k.3)),
  λ h. elim h.2 [
    | inl says ↦ (made n2).1 (h.0, h.1, says.0, says.1)
    | inr ends ↦
        let none : drop spot.place.sent exchange.sent.now ≡ [] = ap (λ (v : Node). v.sent) (sym h.1.2) ∙ ends.1.1 in
        absurd (left_some (drop spot.place.sent exchange.sent.now) (sym some ∙ is) none)
  ],
)

pub passes_ended : {X : Type 0} (config : Config) (within : ℕ) (exchange : Exchange) (spot : Spot) (ms : List (PlainMember X)) (Made : Node → Type 0) (are : Bool)
    → are ≡ are_left (drop spot.place.sent exchange.sent.now) → are ≡ false
    → ((n2 : Node) → Made n2 ↔ ((n : Node) × AtSpot exchange spot ms n × (e : End) × Ends config within n e n2))
    → (n2 : Node) → Made n2 ↔ ((n : Node) × AtSpot exchange spot ms n × Passes config within n n2)
passes_ended config within exchange spot ms Made are some is made n2 = (
  λ h. let k = (made n2).0 h in (k.0, k.1, inr (k.2, k.3)),
  λ h. elim h.2 [
    | inl says ↦
        let first : drop spot.place.sent exchange.sent.now ≡ says.0 ∷ says.1.0 = ap (λ (v : Node). v.sent) (sym h.1.2) ∙ says.1.1 in
        absurd (left_none says.0 (drop spot.place.sent exchange.sent.now) says.1.0 (sym some ∙ is) first)
    | inr ends ↦ (made n2).1 (h.0, h.1, ends.0, ends.1)
  ],
)

-- ---- one place of a list

place_is : {X : Type 0} (xs : List X) (i : ℕ) (d y : X) → i < length xs → y ≡ get_or xs i d → slice_get xs i ≡ Some y
place_is [] i d y h e = absurd (omega (arith, h))
place_is (x ∷ xs) zero d y h e = ap Some (sym e)
place_is (x ∷ xs) (suc i) d y h e = place_is xs i d y (omega (arith, h)) e

none_there : {X : Type 0} (xs : List X) (i : ℕ) → length xs ≤ i → slice_get xs i ≡ None
none_there [] i h = refl
none_there (x ∷ xs) zero h = absurd (omega (arith, h))
none_there (x ∷ xs) (suc i) h = none_there xs i (omega (arith, h))

pub place_some : {X : Type 0} (xs : List X) (i : ℕ) (x : Bor X) → IsItemAt xs i (Some x) → slice_get xs i ≡ Some x.now
place_some xs i x h = place_is xs i x.now x.now h.3.0 (h.3.1 x.now)

pub place_none : {X : Type 0} (xs : List X) (i : ℕ) → IsItemAt xs i None → slice_get xs i ≡ None
place_none xs i h = none_there xs i h.3

pub made_none : {X : Type 0} (exchange : Exchange) (made : Option (CodeNode X)) (n : Node) → made ≡ None → IsMade exchange made n → ⊥
made_none exchange made n e h = subst (λ (v : Option (CodeNode _)). IsMade exchange v n) e h

pub made_some : {X : Type 0} (exchange : Exchange) (made : Option (CodeNode X)) (node : CodeNode X) (n : Node) → made ≡ Some node → IsOf exchange node n ↔ IsMade exchange made n
made_some exchange made node n e = (
  λ h. subst (λ (v : Option (CodeNode _)). IsMade exchange v n) (sym e) h,
  λ h. subst (λ (v : Option (CodeNode _)). IsMade exchange v n) e h,
)

-- what the node at a place makes
module _ {X : Type 0} (config : Config) (exchange : Exchange) (nodes : List (CodeNode X)) (index : ℕ) where
  pub none_at : slice_get nodes index ≡ None → (n2 : Node) → IsMade {X = X} exchange None n2 ↔ ((n : Node) × IsOfPlace exchange nodes index n × (x : Message) × Hears config n x n2)
  none_at none n2 = (
    λ h. absurd h,
    λ h. subst (λ (v : Option (CodeNode X)). IsSomeAnd v (λ node. IsOf exchange node h.0)) none h.1,
  )

  pub made_at : (node : CodeNode X) (made : Option (CodeNode X)) → slice_get nodes index ≡ Some node
      → ((n2 : Node) → IsMade exchange made n2 ↔ ((n : Node) × IsOf exchange node n × (x : Message) × Hears config n x n2))
      → (n2 : Node) → IsMade exchange made n2 ↔ ((n : Node) × IsOfPlace exchange nodes index n × (x : Message) × Hears config n x n2)
  made_at node made at just n2 = (
    λ h.
        let k = (just n2).0 h in
        (k.0, subst (λ (v : Option (CodeNode X)). IsSomeAnd v (λ x. IsOf exchange x k.0)) (sym at) k.1, k.2, k.3),
    λ h. (just n2).1 (h.0, subst (λ (v : Option (CodeNode X)). IsSomeAnd v (λ x. IsOf exchange x h.0)) at h.1, h.2, h.3),
  )

-- and what is appended for it
module _ {X : Type 0} (exchange : Exchange) (nodes : List (CodeNode X)) (index : ℕ) (P : Node → Node → Type 0) (old : List (CodeNode X)) where
  abbrev FromPlace : Node → Type 0
  FromPlace n2 = (n : Node) × IsOfPlace exchange nodes index n × P n n2

  pub nothing_at : slice_get nodes index ≡ None → GainsNodes exchange old old FromPlace
  nothing_at none = gains_nothing exchange old FromPlace (λ n2 h. subst (λ (v : Option (CodeNode X)). IsSomeAnd v (λ node. IsOf exchange node h.0)) none h.1)

  at_node : (node : CodeNode X) → slice_get nodes index ≡ Some node → (n : Node) → IsOfPlace exchange nodes index n ↔ IsOf exchange node n
  at_node node at n = (
    λ h. subst (λ (v : Option (CodeNode X)). IsSomeAnd v (λ x. IsOf exchange x n)) at h,
    λ h. subst (λ (v : Option (CodeNode X)). IsSomeAnd v (λ x. IsOf exchange x n)) (sym at) h,
  )

  pub nothing_made : (node : CodeNode X) (made : Option (CodeNode X)) → slice_get nodes index ≡ Some node → ((n2 : Node) → IsMade exchange made n2 ↔ ((n : Node) × IsOf exchange node n × P n n2)) → made ≡ None
      → GainsNodes exchange old old FromPlace
  nothing_made node made at just none = gains_nothing exchange old FromPlace (λ n2 h.
      let k : IsMade exchange made n2 = (just n2).1 (h.0, (at_node node at h.0).0 h.1, h.2) in
      subst (λ (v : Option (CodeNode X)). IsMade exchange v n2) none k)

  pub all_made : (node by : CodeNode X) (made : Option (CodeNode X)) (new : List (CodeNode X)) → slice_get nodes index ≡ Some node
      → ((n2 : Node) → IsMade exchange made n2 ↔ ((n : Node) × IsOf exchange node n × P n n2)) → made ≡ Some by
      → GainsNodes exchange old new (IsOf exchange by) → GainsNodes exchange old new FromPlace
  all_made node by made new at just is gains = gains_same exchange old new (IsOf exchange by) FromPlace gains (λ n2. (
    λ h.
        let k = (just n2).0 (subst (λ (v : Option (CodeNode X)). IsMade exchange v n2) (sym is) h) in
        (k.0, (at_node node at k.0).1 k.1, k.2),
    λ h.
        let k : IsMade exchange made n2 = (just n2).1 (h.0, (at_node node at h.0).0 h.1, h.2) in
        subst (λ (v : Option (CodeNode X)). IsMade exchange v n2) is k,
  ))
