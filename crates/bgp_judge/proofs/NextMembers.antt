-- What a record makes of a member, as lists of steps and heads give it.
use Rattle.std.proofs.Common.{◌≡◌, ◌↔◌, inl, inr, List, [], ◌∷◌, Option, None, Result, Ok, Err, OnOk, refl, sym, ap, subst, ◌∙◌}
use Rattle.bgp_prefix.specs.Shown.{ShownRecord}
use Rattle.bgp_open.specs.declared.config.Config.{Config}
use Rattle.bgp_machine.specs.Changes.{RouteChanges}
use Rattle.bgp_machine.specs.declared.fsm.Fsm.{Fsm}
use Rattle.bgp_machine.specs.declared.state.Head.{Head}
use Rattle.bgp_machine.specs.declared.step.Step.{Step}
use Rattle.bgp_machine.specs.declared.want.Want.{Want}
use Rattle.bgp_machine.specs.Listed.{IsStep, turn_of}
use Rattle.bgp_machine.specs.Lists.{Has, Each}
use Rattle.bgp_machine.specs.Run.{End, Silent, ListsSilent}
use Rattle.bgp_machine.specs.Shows.{Pays}
use Rattle.bgp_machine.specs.State.{SessionState, Turn, link_at, moved}
use Rattle.bgp_machine.specs.Want.{wants_of}
use Rattle.bgp_judge.specs.declared.member.PlainMember.{PlainMember}
use Rattle.bgp_judge.specs.declared.unshown.Unshown.{Unshown}
use Rattle.bgp_judge.specs.Image.{IsImage}
use Rattle.bgp_judge.specs.Member.{Member, IsFree, link_for}
use Rattle.bgp_judge.specs.Next.{Opens, Continues, Next}
use Rattle.bgp_judge.specs.Openings.{ListsOpenings}
use Rattle.bgp_judge.specs.Plain.{member_value, Among, Gains, StartsAt, StartsFrom, opened_member}
use Rattle.bgp_judge.specs.Unshown.{Leaves}
use Rattle.bgp_judge.proofs.Gaining.{gains_same}
use Rattle.bgp_judge.proofs.Paying.{pays_nothing}
use Rattle.bgp_judge.proofs.Standing.{silent_end}

pub ok_weaker : {T E : Type 0} (r : Result T E) (P Q : Type 0) → (P → Q) → OnOk r P → OnOk r Q
ok_weaker (Ok x) P Q f h = f h
ok_weaker (Err x) P Q f h = tt

has_weaker : {X : Type 0} (P Q : X → Type 0) → ((x : X) → P x → Q x) → (xs : List X) → Has P xs → Has Q xs
has_weaker P Q f [] h = h
has_weaker P Q f (x ∷ xs) h = elim h [ inl a ↦ inl (f x a) | inr b ↦ inr (has_weaker P Q f xs b) ]

-- one that has it is one of those that each have more
has_each : {X : Type 0} (P Q : X → Type 0) (R : Type 0) → ((x : X) → P x → Q x → R) → (xs : List X) → Each P xs → Has Q xs → R
has_each P Q R f [] each h = absurd h
has_each P Q R f (x ∷ xs) each h = elim h [ inl a ↦ f x each.0 a | inr b ↦ has_each P Q R f xs each.1 b ]

opened_is : (config : Config) (shown : ShownRecord) (s : SessionState) (head : Head) (changes : RouteChanges) (x : Step) (m : Member)
    → Opens config head shown (wants_of x.wants) x.change (turn_of changes x.after) → m ≡ opened_member s head changes x → StartsAt config shown s head m
opened_is config shown s head changes x m opens e =
    subst (λ (v : Member). StartsAt config shown s head v) (sym e) (turn_of changes x.after, opens, refl, refl)

is_opened : (s : SessionState) (head : Head) (changes : RouteChanges) (m : Member) (turn : Turn) (x : Step) → m.state ≡ moved s turn
    → m.link ≡ link_for m.wants (link_at head) → IsStep changes x m.wants m.change turn → m ≡ opened_member s head changes x
is_opened s head changes m turn x state link is =
    let to : m.state ≡ moved s (turn_of changes x.after) = state ∙ ap (λ (v : Turn). moved s v) (sym is.ends) in
    let on : m.link ≡ link_for (wants_of x.wants) (link_at head) = link ∙ ap (λ (v : List Want). link_for v (link_at head)) (sym is.sends) in
    λ i. record { state = to i; link = on i; wants = sym is.sends i; change = sym is.shows i }

pub openings_gain : {A : Type 0} (config : Config) (shown : ShownRecord) (s : SessionState) (head : Head) (changes : RouteChanges) (steps : List Step)
    (old new : List (PlainMember A)) → ListsOpenings config head shown changes steps
    → Gains old new (λ m. Has (λ x. m ≡ opened_member s head changes x) steps) → Gains old new (StartsAt config shown s head)
openings_gain config shown s head changes steps old new lists g =
    gains_same old new (λ m. Has (λ x. m ≡ opened_member s head changes x) steps) (StartsAt config shown s head) g (λ m. (
      λ h. has_each (λ x. Opens config head shown (wants_of x.wants) x.change (turn_of changes x.after)) (λ x. m ≡ opened_member s head changes x)
          (StartsAt config shown s head m) (λ x o e. opened_is config shown s head changes x m o e) steps lists.each h,
      λ h. has_weaker (λ x. IsStep changes x m.wants m.change h.0) (λ x. m ≡ opened_member s head changes x)
          (λ x is. is_opened s head changes m h.0 x h.2 h.3 is) steps (lists.every m.wants m.change h.0 h.1),
    ))

pub starts_gain : {A : Type 0} (config : Config) (shown : ShownRecord) (s : SessionState) (heads : List Head) (old new : List (PlainMember A))
    → ListsSilent config s heads → Gains old new (λ m. Has (λ h. StartsAt config shown s h m) heads) → Gains old new (StartsFrom config shown s)
starts_gain config shown s heads old new lists g =
    gains_same old new (λ m. Has (λ h. StartsAt config shown s h m) heads) (StartsFrom config shown s) g (λ m. (
      λ h. has_each (λ x. Silent config s (record s { head = x })) (λ x. StartsAt config shown s x m)
          (StartsFrom config shown s m) (λ x silent starts. (x, silent, starts)) heads lists.each h,
      λ h. has_weaker (λ x. record s { head = x } ≡ record s { head = h.0 }) (λ x. StartsAt config shown s x m)
          (λ x e. subst (λ (v : Head). StartsAt config shown s v m) (sym (ap (λ (v : SessionState). v.head) e)) h.2) heads (lists.every (record s { head = h.0 }) h.1),
    ))

same_but_head : (config : Config) (s before : SessionState) → Silent config s before → before ≡ record s { head = before.head }
same_but_head config s before silent =
    let e : before.routes ≡ s.routes = ap (λ (v : End). v.routes) (silent_end config s before silent) in
    λ i. record { head = before.head; routes = e i }

-- what has nothing left to show starts a step
pub free_next : (config : Config) (shown : ShownRecord) (m : Member) → IsFree m → (m2 : Member) → StartsFrom config shown m.state m2 ↔ Next config shown m m2
free_next config shown m free m2 = (
  λ h. inr (record { free = free; before = record m.state { head = h.0 }; silent = h.1; turn = h.2.0; opens = h.2.1; state = h.2.2; link = h.2.3 }),
  λ n. elim n [
    | inl c ↦ absurd (pays_nothing config m.link shown m2.wants m2.change
        (subst (λ (ws : List Want). Pays config m.link shown ws None m2.wants m2.change) free.0
        (subst (λ (v : Option (Fsm × Fsm)). Pays config m.link shown m.wants v m2.wants m2.change) free.1 c.pays)))
    | inr s ↦
        let p = same_but_head config m.state s.before s.silent in (
          s.before.head,
          subst (λ (v : SessionState). Silent config m.state v) p s.silent,
          (s.turn, s.opens, s.state ∙ ap (λ (v : SessionState). moved v s.turn) p, s.link),
        )
  ],
)

-- what has something left to show goes on with its last step
pub bound_next : (config : Config) (shown : ShownRecord) (m : Member) → (IsFree m → ⊥) → (m2 : Member) → Continues config shown m m2 ↔ Next config shown m m2
bound_next config shown m bound m2 = (λ c. inl c, λ n. elim n [ inl c ↦ c | inr s ↦ absurd (bound s.free) ])

pub continued_is : (config : Config) (shown : ShownRecord) (m : Member) (u left : Unshown) (x : Member) → m.wants ≡ wants_of u.wants → m.change ≡ u.change
    → Leaves config m.link shown u left → x ≡ record { state = m.state; link = link_for (wants_of left.wants) m.link; wants = wants_of left.wants; change = left.change }
    → (m2 : Member) → (m2 ≡ x) ↔ Continues config shown m m2
continued_is config shown m u left x wants change leaves is m2 = (
  λ e. subst (λ (v : Member). Continues config shown m v) (sym (e ∙ is)) (record {
    pays = subst (λ (ws : List Want). Pays config m.link shown ws m.change (wants_of left.wants) left.change) (sym wants)
        (subst (λ (v : Option (Fsm × Fsm)). Pays config m.link shown (wants_of u.wants) v (wants_of left.wants) left.change) (sym change) leaves.pays);
    state = refl;
    link = refl;
  }),
  λ c.
      let o = leaves.only m2.wants m2.change
      (subst (λ (ws : List Want). Pays config m.link shown ws u.change m2.wants m2.change) wants
      (subst (λ (v : Option (Fsm × Fsm)). Pays config m.link shown m.wants v m2.wants m2.change) change c.pays)) in
      let on : m2.link ≡ link_for (wants_of left.wants) m.link = c.link ∙ ap (λ (v : List Want). link_for v m.link) (sym o.0) in
      let same : m2 ≡ record { state = m.state; link = link_for (wants_of left.wants) m.link; wants = wants_of left.wants; change = left.change } =
      λ i. record { state = c.state i; link = on i; wants = sym o.0 i; change = sym o.1 i } in
      same ∙ sym is,
)

has_value : {A : Type 0} (P : Member → Type 0) (xs : List (PlainMember A)) → Has (λ x. P (member_value x)) xs → (m : Member) × Among xs m × P m
has_value P [] h = absurd h
has_value P (x ∷ xs) h = elim h [
  | inl a ↦ (member_value x, inl refl, a)
  | inr b ↦ let k = has_value P xs b in (k.0, inr k.1, k.2)
]

value_has : {A : Type 0} (P : Member → Type 0) (xs : List (PlainMember A)) (m : Member) → Among xs m → P m → Has (λ x. P (member_value x)) xs
value_has P xs m among p = has_weaker (λ x. member_value x ≡ m) (λ x. P (member_value x)) (λ x e. subst (λ (v : Member). P v) (sym e) p) xs among

pub all_next : {A : Type 0} (config : Config) (shown : ShownRecord) (members next : List (PlainMember A))
    → Gains [] next (λ m. Has (λ x. Next config shown (member_value x) m) members)
    → (m2 : Member) → Among next m2 ↔ ((m : Member) × Among members m × Next config shown m m2)
all_next config shown members next g m2 = (
  λ h. elim (g.only m2 h) [ inl z ↦ absurd z | inr k ↦ has_value (λ m. Next config shown m m2) members k ],
  λ h. g.adds m2 (value_has (λ m. Next config shown m m2) members h.0 h.1 h.2),
)

-- a list of all that the record makes of members is their image
pub is_image : {A : Type 0} (config : Config) (shown : ShownRecord) (members next : List (PlainMember A))
    → ((m2 : Member) → Among next m2 ↔ ((m : Member) × Among members m × Next config shown m m2)) → IsImage config shown (Among members) (Among next)
is_image config shown members next same = record {
  sound = λ m2 h. (same m2).0 h;
  whole = λ m m2 h n. (m2, (same m2).1 (m, h, n), inl refl);
}
