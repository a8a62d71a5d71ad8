-- What a record leaves of members: first of those that fall to Idle.
use Rattle.std.proofs.Common.{◌≡◌, ◌↔◌, ◌⊎◌, inl, inr, IsTrue, List, [], ◌∷◌, Option, None, Some, refl, sym, ap, subst, ◌∙◌}
use Rattle.bgp_prefix.specs.Shown.{ShownRecord}
use Rattle.bgp_open.specs.declared.config.Config.{Config}
use Rattle.bgp_open.specs.declared.link.Link.{Link}
use Rattle.bgp_machine.specs.declared.fsm.Fsm.{Fsm}
use Rattle.bgp_machine.specs.declared.fsm.Fsm.TheVariants as fsms
use Rattle.bgp_machine.specs.declared.want.FaultSet.{FaultSet}
use Rattle.bgp_machine.specs.declared.want.Want.{Want}
use Rattle.bgp_machine.specs.declared.want.Wants.{Wants}
use Rattle.bgp_machine.specs.Going.{told, shown_after}
use Rattle.bgp_machine.specs.State.{link_at}
use Rattle.bgp_machine.specs.Step.{changed}
use Rattle.bgp_machine.specs.Want.{wants_of}
use Rattle.bgp_judge.specs.Member.{Member, link_for}
use Rattle.bgp_judge.specs.Next.{Continues}
use Rattle.bgp_compact.specs.declared.falls.Fall.{Fall}
use Rattle.bgp_compact.specs.declared.falls.Fall.TheVariants.{Silent, Ceased, Expired, SendExpired, Erred, Faulted}
use Rattle.bgp_compact.specs.declared.words.Words.{Words}
use Rattle.bgp_compact.specs.Members.{HasFall, sends_of, error_of, left_where, left_of, link_in, link_before, fallen_member}
use Rattle.bgp_judge.specs.declared.unshown.Unshown.{Unshown}
use Rattle.bgp_judge.specs.Unshown.{PaysNothing, Leaves}
use Rattle.bgp_machine.specs.Shows.{Pays}
use Rattle.bgp_prefix.specs.Shown.{Received, Sent, Changed}
use Rattle.bgp_machine.specs.State.{fresh_state}
use Rattle.bgp_machine.specs.declared.want.Want.TheVariants as wants
use Rattle.bgp_machine.specs.declared.want.Wants.TheVariants.{Nothing, One, Two}
use Rattle.std.proofs.Common.{Bool, true, false, if◌then◌else◌}
use Rattle.bgp_compact.specs.declared.falls.Falls.{Falls}
use Rattle.bgp_compact.specs.Members.{no_falls}
use Rattle.bgp_compact.specs.Parts.{shown_by, fall_for, with_fall, AgreeOnFaults, NoFallPaid, LeavesFall, FallsTo, FallPaid, IsPaid, AreFallsOf, faulted_by}
use Rattle.bgp_compact.proofs.OneFall.{has_with, none_falls, sends_fall}
use Rattle.bgp_compact.proofs.PartPaid.{Part, part, link_kept}

pub left_twice : (shown left : Fsm) → left_where shown (left_where shown left) ≡ left_where shown left
left_twice fsms.Idle left = refl
left_twice fsms.Connect left = refl
left_twice fsms.Active left = refl
left_twice fsms.OpenSent left = refl
left_twice fsms.OpenConfirm left = refl
left_twice fsms.Established left = refl

-- at most one message is sent
one_error : (left : Fsm) (w : Want) (ws : List Want) → error_of left ≡ w ∷ ws → ws ≡ []
one_error fsms.Idle w ws e = cc
one_error fsms.Connect w ws e = cc
one_error fsms.Active w ws e = cc
one_error fsms.OpenSent w ws e = cc
one_error fsms.OpenConfirm w ws e = cc
one_error fsms.Established w ws e = cc

one_sent : (left : Fsm) (fall : Fall) (w : Want) (ws : List Want) → sends_of left fall ≡ w ∷ ws → ws ≡ []
one_sent left Silent w ws e = cc
one_sent left Ceased w ws e = cc
one_sent left Expired w ws e = cc
one_sent left SendExpired w ws e = cc
one_sent left Erred w ws e = one_error left w ws e
one_sent left (Faulted s) w ws e = cc

abbrev PartOf : Config → Words → Fall → ShownRecord → List Want → Option (Fsm × Fsm) → Type 0
PartOf config n fall r left still = Part config (link_for (sends_of (left_of n) fall) (link_before n)) r (sends_of (left_of n) fall) n.shown fsms.Idle left still

-- the state that was left is the same behind the record
pub left_stays : (config : Config) (n : Words) (fall : Fall) (r : ShownRecord) (left : List Want) (still : Option (Fsm × Fsm)) → PartOf config n fall r left still
    → left_of (shown_by n r) ≡ left_of n
left_stays config n fall r left still p = elim p.way [
  | inl a ↦ ap (λ (v : Option Fsm). left_where (shown_after n.shown v) (left_of n)) a.0 ∙ left_twice n.shown n.left
  | inr b ↦ ap (λ (v : Option Fsm). left_where (shown_after n.shown v) (left_of n)) b.0
]

-- and the state that is shown stays, or is Idle
pub paid_stays : (config : Config) (n : Words) (fall : Fall) (r : ShownRecord) (m : Member) → Continues config r (fallen_member n fall) m
    → (shown_after n.shown (told r) ≡ n.shown) ⊎ (shown_after n.shown (told r) ≡ fsms.Idle)
paid_stays config n fall r m c =
    let p : PartOf config n fall r m.wants m.change =
    part config (link_for (sends_of (left_of n) fall) (link_before n)) r (sends_of (left_of n) fall) n.shown fsms.Idle m.wants m.change c.pays in
    elim p.way [
      | inl a ↦ inl (ap (λ (v : Option Fsm). shown_after n.shown v) a.0)
      | inr b ↦ inr (ap (λ (v : Option Fsm). shown_after n.shown v) b.0)
    ]

-- nothing is left to send, or all of it
pub left_sends : (config : Config) (n : Words) (fall : Fall) (r : ShownRecord) (left : List Want) (still : Option (Fsm × Fsm)) → PartOf config n fall r left still
    → (left ≡ []) ⊎ (left ≡ sends_of (left_of n) fall)
left_sends config n fall r left still p = elim p.way [
  | inl a ↦ inl (one_sent (left_of n) fall a.1 left a.2)
  | inr b ↦ inr b.1
]

-- what the record leaves of a member that falls
pub fall_left : (config : Config) (n : Words) (fall f2 : Fall) (r : ShownRecord) (m : Member) → Continues config r (fallen_member n fall) m
    → m.wants ≡ sends_of (left_of n) f2 → m ≡ fallen_member (shown_by n r) f2
fall_left config n fall f2 r m c e =
    let p : PartOf config n fall r m.wants m.change = part config (link_for (sends_of (left_of n) fall) (link_before n)) r (sends_of (left_of n) fall) n.shown fsms.Idle m.wants m.change c.pays in
    let l : left_of (shown_by n r) ≡ left_of n = left_stays config n fall r m.wants m.change p in
    let w : m.wants ≡ sends_of (left_of (shown_by n r)) f2 = e ∙ ap (λ (v : Fsm). sends_of v f2) (sym l) in
    let b : link_before n ≡ link_before (shown_by n r) = ap (λ (v : Fsm). link_in v (link_at n.head)) (sym l) in
    let k : m.link ≡ link_for (sends_of (left_of (shown_by n r)) f2) (link_before (shown_by n r)) =
    c.link ∙ link_kept (sends_of (left_of n) fall) m.wants (link_before n) (left_sends config n fall r m.wants m.change p)
    ∙ ap (λ (v : List Want). link_for v (link_before n)) w ∙ ap (λ (v : Option Link). link_for (sends_of (left_of (shown_by n r)) f2) v) b in
    λ i. record { state = c.state i; link = k i; wants = w i; change = p.is_owed i }

-- ---- a payment on the link that is kept for what is sent

pays_at : (config : Config) (link : Option Link) (r : ShownRecord) (ws : List Want) (c : Option (Fsm × Fsm)) (left : List Want) (still : Option (Fsm × Fsm))
    → Pays config (link_for ws link) r ws c left still → Pays config link r ws c left still
pays_at config link (Received u m) ws c left still h = h
pays_at config link (Sent u m) [] c left still h = h
pays_at config link (Sent u m) (w ∷ ws) c left still h = h
pays_at config link (Changed u x y) ws None left still h = h
pays_at config link (Changed u x y) ws (Some p) left still h = h

pays_from : (config : Config) (link : Option Link) (r : ShownRecord) (ws : List Want) (c : Option (Fsm × Fsm)) (left : List Want) (still : Option (Fsm × Fsm))
    → Pays config link r ws c left still → Pays config (link_for ws link) r ws c left still
pays_from config link (Received u m) ws c left still h = h
pays_from config link (Sent u m) [] c left still h = h
pays_from config link (Sent u m) (w ∷ ws) c left still h = h
pays_from config link (Changed u x y) ws None left still h = h
pays_from config link (Changed u x y) ws (Some p) left still h = h

-- ---- what is left of one fall

-- one message that is sent is that of the fall
same_one : (left : Fsm) (fall : Fall) (w : Want) → w ∷ [] ≡ sends_of left fall → (fall_for (One w) ≡ Silent) ⊎ (fall_for (One w) ≡ fall)
same_one left Silent wants.OwnOpen e = absurd (let k : ⊥ = cc in k)
same_one left Ceased wants.OwnOpen e = absurd (let k : ⊥ = cc in k)
same_one left Expired wants.OwnOpen e = absurd (let k : ⊥ = cc in k)
same_one left SendExpired wants.OwnOpen e = absurd (let k : ⊥ = cc in k)
same_one left (Faulted s) wants.OwnOpen e = absurd (let k : ⊥ = cc in k)
same_one fsms.Idle Erred wants.OwnOpen e = absurd (let k : ⊥ = cc in k)
same_one fsms.Connect Erred wants.OwnOpen e = absurd (let k : ⊥ = cc in k)
same_one fsms.Active Erred wants.OwnOpen e = absurd (let k : ⊥ = cc in k)
same_one fsms.OpenSent Erred wants.OwnOpen e = absurd (let k : ⊥ = cc in k)
same_one fsms.OpenConfirm Erred wants.OwnOpen e = absurd (let k : ⊥ = cc in k)
same_one fsms.Established Erred wants.OwnOpen e = absurd (let k : ⊥ = cc in k)
same_one left Silent wants.KeepAlive e = absurd (let k : ⊥ = cc in k)
same_one left Ceased wants.KeepAlive e = absurd (let k : ⊥ = cc in k)
same_one left Expired wants.KeepAlive e = absurd (let k : ⊥ = cc in k)
same_one left SendExpired wants.KeepAlive e = absurd (let k : ⊥ = cc in k)
same_one left (Faulted s) wants.KeepAlive e = absurd (let k : ⊥ = cc in k)
same_one fsms.Idle Erred wants.KeepAlive e = absurd (let k : ⊥ = cc in k)
same_one fsms.Connect Erred wants.KeepAlive e = absurd (let k : ⊥ = cc in k)
same_one fsms.Active Erred wants.KeepAlive e = absurd (let k : ⊥ = cc in k)
same_one fsms.OpenSent Erred wants.KeepAlive e = absurd (let k : ⊥ = cc in k)
same_one fsms.OpenConfirm Erred wants.KeepAlive e = absurd (let k : ⊥ = cc in k)
same_one fsms.Established Erred wants.KeepAlive e = absurd (let k : ⊥ = cc in k)
same_one left Silent wants.CleanUpdate e = absurd (let k : ⊥ = cc in k)
same_one left Ceased wants.CleanUpdate e = absurd (let k : ⊥ = cc in k)
same_one left Expired wants.CleanUpdate e = absurd (let k : ⊥ = cc in k)
same_one left SendExpired wants.CleanUpdate e = absurd (let k : ⊥ = cc in k)
same_one left (Faulted s) wants.CleanUpdate e = absurd (let k : ⊥ = cc in k)
same_one fsms.Idle Erred wants.CleanUpdate e = absurd (let k : ⊥ = cc in k)
same_one fsms.Connect Erred wants.CleanUpdate e = absurd (let k : ⊥ = cc in k)
same_one fsms.Active Erred wants.CleanUpdate e = absurd (let k : ⊥ = cc in k)
same_one fsms.OpenSent Erred wants.CleanUpdate e = absurd (let k : ⊥ = cc in k)
same_one fsms.OpenConfirm Erred wants.CleanUpdate e = absurd (let k : ⊥ = cc in k)
same_one fsms.Established Erred wants.CleanUpdate e = absurd (let k : ⊥ = cc in k)
same_one left Silent wants.Cease e = absurd (let k : ⊥ = cc in k)
same_one left Ceased wants.Cease e = inr refl
same_one left Expired wants.Cease e = absurd (let k : ⊥ = cc in k)
same_one left SendExpired wants.Cease e = absurd (let k : ⊥ = cc in k)
same_one left (Faulted s) wants.Cease e = absurd (let k : ⊥ = cc in k)
same_one fsms.Idle Erred wants.Cease e = absurd (let k : ⊥ = cc in k)
same_one fsms.Connect Erred wants.Cease e = absurd (let k : ⊥ = cc in k)
same_one fsms.Active Erred wants.Cease e = absurd (let k : ⊥ = cc in k)
same_one fsms.OpenSent Erred wants.Cease e = absurd (let k : ⊥ = cc in k)
same_one fsms.OpenConfirm Erred wants.Cease e = absurd (let k : ⊥ = cc in k)
same_one fsms.Established Erred wants.Cease e = absurd (let k : ⊥ = cc in k)
same_one left Silent wants.HoldExpired e = absurd (let k : ⊥ = cc in k)
same_one left Ceased wants.HoldExpired e = absurd (let k : ⊥ = cc in k)
same_one left Expired wants.HoldExpired e = inr refl
same_one left SendExpired wants.HoldExpired e = absurd (let k : ⊥ = cc in k)
same_one left (Faulted s) wants.HoldExpired e = absurd (let k : ⊥ = cc in k)
same_one fsms.Idle Erred wants.HoldExpired e = absurd (let k : ⊥ = cc in k)
same_one fsms.Connect Erred wants.HoldExpired e = absurd (let k : ⊥ = cc in k)
same_one fsms.Active Erred wants.HoldExpired e = absurd (let k : ⊥ = cc in k)
same_one fsms.OpenSent Erred wants.HoldExpired e = absurd (let k : ⊥ = cc in k)
same_one fsms.OpenConfirm Erred wants.HoldExpired e = absurd (let k : ⊥ = cc in k)
same_one fsms.Established Erred wants.HoldExpired e = absurd (let k : ⊥ = cc in k)
same_one left Silent wants.SendHoldExpired e = absurd (let k : ⊥ = cc in k)
same_one left Ceased wants.SendHoldExpired e = absurd (let k : ⊥ = cc in k)
same_one left Expired wants.SendHoldExpired e = absurd (let k : ⊥ = cc in k)
same_one left SendExpired wants.SendHoldExpired e = inr refl
same_one left (Faulted s) wants.SendHoldExpired e = absurd (let k : ⊥ = cc in k)
same_one fsms.Idle Erred wants.SendHoldExpired e = absurd (let k : ⊥ = cc in k)
same_one fsms.Connect Erred wants.SendHoldExpired e = absurd (let k : ⊥ = cc in k)
same_one fsms.Active Erred wants.SendHoldExpired e = absurd (let k : ⊥ = cc in k)
same_one fsms.OpenSent Erred wants.SendHoldExpired e = absurd (let k : ⊥ = cc in k)
same_one fsms.OpenConfirm Erred wants.SendHoldExpired e = absurd (let k : ⊥ = cc in k)
same_one fsms.Established Erred wants.SendHoldExpired e = absurd (let k : ⊥ = cc in k)
same_one left Silent (wants.MachineError st) e = absurd (let k : ⊥ = cc in k)
same_one left Ceased (wants.MachineError st) e = absurd (let k : ⊥ = cc in k)
same_one left Expired (wants.MachineError st) e = absurd (let k : ⊥ = cc in k)
same_one left SendExpired (wants.MachineError st) e = absurd (let k : ⊥ = cc in k)
same_one left (Faulted s) (wants.MachineError st) e = absurd (let k : ⊥ = cc in k)
same_one fsms.Idle Erred (wants.MachineError st) e = inr refl
same_one fsms.Connect Erred (wants.MachineError st) e = inr refl
same_one fsms.Active Erred (wants.MachineError st) e = inr refl
same_one fsms.OpenSent Erred (wants.MachineError st) e = inr refl
same_one fsms.OpenConfirm Erred (wants.MachineError st) e = inr refl
same_one fsms.Established Erred (wants.MachineError st) e = inr refl
same_one left Silent (wants.Faults t) e = absurd (let k : ⊥ = cc in k)
same_one left Ceased (wants.Faults t) e = absurd (let k : ⊥ = cc in k)
same_one left Expired (wants.Faults t) e = absurd (let k : ⊥ = cc in k)
same_one left SendExpired (wants.Faults t) e = absurd (let k : ⊥ = cc in k)
same_one left (Faulted s) (wants.Faults t) e = inr (let k : t ≡ s = cc in ap (λ (v : FaultSet). Faulted v) k)
same_one fsms.Idle Erred (wants.Faults t) e = absurd (let k : ⊥ = cc in k)
same_one fsms.Connect Erred (wants.Faults t) e = absurd (let k : ⊥ = cc in k)
same_one fsms.Active Erred (wants.Faults t) e = absurd (let k : ⊥ = cc in k)
same_one fsms.OpenSent Erred (wants.Faults t) e = absurd (let k : ⊥ = cc in k)
same_one fsms.OpenConfirm Erred (wants.Faults t) e = absurd (let k : ⊥ = cc in k)
same_one fsms.Established Erred (wants.Faults t) e = absurd (let k : ⊥ = cc in k)

same_fall : (left : Fsm) (fall : Fall) (ws : Wants) → wants_of ws ≡ sends_of left fall → (fall_for ws ≡ Silent) ⊎ (fall_for ws ≡ fall)
same_fall left fall Nothing e = inl refl
same_fall left fall (One w) e = same_one left fall w e
same_fall left fall (Two w v) e = inl refl

none_left : (ws : Wants) → wants_of ws ≡ [] → fall_for ws ≡ Silent
none_left Nothing e = refl
none_left (One w) e = absurd (let k : ⊥ = cc in k)
none_left (Two w v) e = refl

pub fall_leaves : (config : Config) (n : Words) (r : ShownRecord) (fall : Fall) (x y : Unshown) → wants_of x.wants ≡ sends_of (left_of n) fall
    → x.change ≡ changed n.shown fsms.Idle → Leaves config (link_before n) r x y → LeavesFall config n r fall (fall_for y.wants)
fall_leaves config n r fall x y e c h =
    let sends = sends_of (left_of n) fall in
    let to : (l : List Want) (s : Option (Fsm × Fsm)) → Pays config (link_before n) r (wants_of x.wants) x.change l s → Pays config (link_before n) r sends (changed n.shown fsms.Idle) l s =
    λ l s p. subst (λ (v : List Want). Pays config (link_before n) r v (changed n.shown fsms.Idle) l s) e
    (subst (λ (v : Option (Fsm × Fsm)). Pays config (link_before n) r (wants_of x.wants) v l s) c p) in
    let back : (l : List Want) (s : Option (Fsm × Fsm)) → Pays config (link_before n) r sends (changed n.shown fsms.Idle) l s → Pays config (link_before n) r (wants_of x.wants) x.change l s =
    λ l s p. subst (λ (v : Option (Fsm × Fsm)). Pays config (link_before n) r (wants_of x.wants) v l s) (sym c)
    (subst (λ (v : List Want). Pays config (link_before n) r v (changed n.shown fsms.Idle) l s) (sym e) p) in
    let pays : Pays config (link_before n) r sends (changed n.shown fsms.Idle) (wants_of y.wants) y.change = to (wants_of y.wants) y.change h.pays in
    let p : Part config (link_before n) r sends n.shown fsms.Idle (wants_of y.wants) y.change = part config (link_before n) r sends n.shown fsms.Idle (wants_of y.wants) y.change pays in
    let some : (wants_of y.wants ≡ []) ⊎ (wants_of y.wants ≡ sends) =
    elim p.way [ inl a ↦ inl (one_sent (left_of n) fall a.1 (wants_of y.wants) a.2) | inr b ↦ inr b.1 ] in
    let is : wants_of y.wants ≡ sends_of (left_of n) (fall_for y.wants) =
    elim some [ inl a ↦ sends_fall (left_of n) Silent y.wants a | inr b ↦ sends_fall (left_of n) fall y.wants b ] in (
      record {
        still = y.change;
        pays = subst (λ (v : List Want). Pays config (link_before n) r sends (changed n.shown fsms.Idle) v y.change) is pays;
        only = λ l s q. let k = h.only l s (back l s q) in (sym is ∙ k.0, k.1);
      },
      elim some [ inl a ↦ inl (none_left y.wants a) | inr b ↦ same_fall (left_of n) fall y.wants b ],
    )

pub no_fall_left : (config : Config) (n : Words) (r : ShownRecord) (fall : Fall) (x : Unshown) → wants_of x.wants ≡ sends_of (left_of n) fall
    → x.change ≡ changed n.shown fsms.Idle → PaysNothing config (link_before n) r x → NoFallPaid config n r fall
no_fall_left config n r fall x e c none = λ l s p. none l s
    (subst (λ (v : Option (Fsm × Fsm)). Pays config (link_before n) r (wants_of x.wants) v l s) (sym c)
    (subst (λ (v : List Want). Pays config (link_before n) r v (changed n.shown fsms.Idle) l s) (sym e) p))

-- ---- one fall more

none_added : (config : Config) (n : Words) (r : ShownRecord) (falls : Falls) (m : Member)
    → FallsTo (shown_by n r) falls m ↔ (FallsTo (shown_by n r) falls m ⊎ IsPaid config n r None m)
none_added config n r falls m = (λ h. inl h, λ h. elim h [ inl x ↦ x | inr y ↦ absurd (let q = y.1 in let k : ⊥ = cc in k) ])

pub added_none : (config : Config) (n : Words) (r : ShownRecord) (o : Option Fall) (falls : Falls) (m : Member) → o ≡ None
    → FallsTo (shown_by n r) falls m ↔ (FallsTo (shown_by n r) falls m ⊎ IsPaid config n r o m)
added_none config n r o falls m e = subst (λ (v : Option Fall). FallsTo (shown_by n r) falls m ↔ (FallsTo (shown_by n r) falls m ⊎ IsPaid config n r v m)) (sym e) (none_added config n r falls m)

the_fall : (o : Option Fall) (f g : Fall) → o ≡ Some f → o ≡ Some g → g ≡ f
the_fall o f g e h = let k : Some g ≡ Some f = sym h ∙ e in cc

pub added_unpaid : (config : Config) (n : Words) (r : ShownRecord) (o : Option Fall) (fall : Fall) (falls : Falls) (m : Member) → o ≡ Some fall → NoFallPaid config n r fall
    → FallsTo (shown_by n r) falls m ↔ (FallsTo (shown_by n r) falls m ⊎ IsPaid config n r o m)
added_unpaid config n r o fall falls m e none = (
  λ h. inl h,
  λ h. elim h [
    | inl x ↦ x
    | inr y ↦
        let c : Continues config r (fallen_member n fall) m = subst (λ (f : Fall). Continues config r (fallen_member n f) m) (the_fall o fall y.0 e y.1) y.2 in
        absurd (none m.wants m.change (pays_at config (link_before n) r (sends_of (left_of n) fall) (changed n.shown fsms.Idle) m.wants m.change c.pays))
  ],
)

one_set : (f : Falls) (s t : FaultSet) → HasFall f (Faulted s) → HasFall f (Faulted t) → t ≡ s
one_set f s t h k = let e : Some t ≡ Some s = sym k ∙ h in cc

faults_not_silent : (s : FaultSet) → Faulted s ≡ Silent → ⊥
faults_not_silent s e = cc

agree_on : (config : Config) (n : Words) (r : ShownRecord) (fall f2 : Fall) (falls : Falls) → HasFall n.falls fall → AreFallsOf n.falls falls → LeavesFall config n r fall f2
    → AgreeOnFaults falls f2
agree_on config n r fall f2 falls has are leaves = λ faults others e h.
    let same : fall ≡ Faulted faults = elim leaves.1 [ inl a ↦ absurd (faults_not_silent faults (sym e ∙ a)) | inr b ↦ sym b ∙ e ] in
    let there : HasFall n.falls (Faulted others) = elim (are (Faulted others) h) [ inl a ↦ absurd (faults_not_silent others a) | inr b ↦ b ] in
    one_set n.falls faults others (subst (λ (v : Fall). HasFall n.falls v) same has) there

left_continues : (config : Config) (n : Words) (r : ShownRecord) (fall f2 : Fall) → LeavesFall config n r fall f2 → Continues config r (fallen_member n fall) (fallen_member (shown_by n r) f2)
left_continues config n r fall f2 leaves =
    let x : Member = record {
      state = fresh_state;
      link = link_for (sends_of (left_of n) f2) (link_for (sends_of (left_of n) fall) (link_before n));
      wants = sends_of (left_of n) f2;
      change = leaves.0.still;
    } in
    let c : Continues config r (fallen_member n fall) x = record {
      pays = pays_from config (link_before n) r (sends_of (left_of n) fall) (changed n.shown fsms.Idle) (sends_of (left_of n) f2) leaves.0.still leaves.0.pays;
      state = refl;
      link = refl;
    } in
    subst (λ (v : Member). Continues config r (fallen_member n fall) v) (fall_left config n fall f2 r x c refl) c

pub added_paid : (config : Config) (n : Words) (r : ShownRecord) (o : Option Fall) (fall f2 : Fall) (falls : Falls) (m : Member) → o ≡ Some fall → HasFall n.falls fall → AreFallsOf n.falls falls
    → LeavesFall config n r fall f2 → FallsTo (shown_by n r) (with_fall falls f2) m ↔ (FallsTo (shown_by n r) falls m ⊎ IsPaid config n r o m)
added_paid config n r o fall f2 falls m e has are leaves =
    let spec = λ (g : Fall). has_with falls f2 g (agree_on config n r fall f2 falls has are leaves) in (
      λ h. elim ((spec h.0).0 h.1) [
        | inl x ↦ inl (h.0, x, h.2)
        | inr q ↦ inr (
          fall,
          e,
          subst (λ (v : Member). Continues config r (fallen_member n fall) v)
              (sym (h.2 ∙ ap (λ (g : Fall). fallen_member (shown_by n r) g) q)) (left_continues config n r fall f2 leaves),
        )
      ],
      λ h. elim h [
        | inl x ↦ (x.0, (spec x.0).1 (inl x.1), x.2)
        | inr y ↦
            let c : Continues config r (fallen_member n fall) m = subst (λ (f : Fall). Continues config r (fallen_member n f) m) (the_fall o fall y.0 e y.1) y.2 in
            let k = leaves.0.only m.wants m.change (pays_at config (link_before n) r (sends_of (left_of n) fall) (changed n.shown fsms.Idle) m.wants m.change c.pays) in
            (f2, (spec f2).1 (inr refl), fall_left config n fall f2 r m c (sym k.0))
      ],
    )

pub added_falls : (config : Config) (n : Words) (r : ShownRecord) (fall f2 : Fall) (falls : Falls) → HasFall n.falls fall → AreFallsOf n.falls falls
    → LeavesFall config n r fall f2 → AreFallsOf n.falls (with_fall falls f2)
added_falls config n r fall f2 falls has are leaves = λ g h.
    elim ((has_with falls f2 g (agree_on config n r fall f2 falls has are leaves)).0 h) [
      | inl x ↦ are g x
      | inr q ↦ elim leaves.1 [ inl a ↦ inl (q ∙ a) | inr b ↦ inr (subst (λ (v : Fall). HasFall n.falls v) (sym (q ∙ b)) has) ]
    ]

-- ---- all falls

pub if_there : (b : Bool) (f g : Fall) → (if b then Some f else None) ≡ Some g → IsTrue b × (g ≡ f)
if_there true f g e = (refl, let k : f ≡ g = cc in sym k)
if_there false f g e = absurd (let k : ⊥ = cc in k)

pub there_if : (b : Bool) (f : Fall) → IsTrue b → (if b then Some f else None) ≡ Some f
there_if true f h = refl
there_if false f h = absurd (let k : ⊥ = cc in k)

pub faulted_there : (o : Option FaultSet) (g : Fall) → faulted_by o ≡ Some g → (s : FaultSet) × (o ≡ Some s) × (g ≡ Faulted s)
faulted_there None g e = absurd (let k : ⊥ = cc in k)
faulted_there (Some s) g e = (s, refl, let k : Faulted s ≡ g = cc in sym k)

abbrev Adds : Config → Words → ShownRecord → Member → Falls → Option Fall → Falls → Type 0
Adds config n r m old o new = FallsTo (shown_by n r) new m ↔ (FallsTo (shown_by n r) old m ⊎ IsPaid config n r o m)

paid_if : (config : Config) (n : Words) (r : ShownRecord) (m : Member) (o : Option Fall) (b : Bool) (f : Fall) → o ≡ (if b then Some f else None)
    → (IsTrue b → HasFall n.falls f) → IsPaid config n r o m → FallPaid config n r m
paid_if config n r m o b f e has y =
    let k = if_there b f y.0 (sym e ∙ y.1) in (y.0, subst (λ (v : Fall). HasFall n.falls v) (sym k.1) (has k.0), y.2)

paid_faults : (config : Config) (n : Words) (r : ShownRecord) (m : Member) (o : Option Fall) → o ≡ faulted_by n.falls.faulted → IsPaid config n r o m → FallPaid config n r m
paid_faults config n r m o e y =
    let k = faulted_there n.falls.faulted y.0 (sym e ∙ y.1) in (y.0, subst (λ (v : Fall). HasFall n.falls v) (sym k.2) k.1, y.2)

no_more : (n : Words) (f : Falls) (m : Member) → f ≡ no_falls → FallsTo n f m → ⊥
no_more n f m e h = none_falls h.0 (subst (λ (v : Falls). HasFall v h.0) e h.1)

pub all_fallen : (config : Config) (n : Words) (r : ShownRecord) (m : Member) (o1 o2 o3 o4 o5 o6 : Option Fall) (f0 f1 f2 f3 f4 f5 f6 : Falls) → f0 ≡ no_falls
    → o1 ≡ (if n.falls.silent then Some Silent else None) → o2 ≡ (if n.falls.ceased then Some Ceased else None)
    → o3 ≡ (if n.falls.expired then Some Expired else None) → o4 ≡ (if n.falls.send_expired then Some SendExpired else None)
    → o5 ≡ (if n.falls.erred then Some Erred else None) → o6 ≡ faulted_by n.falls.faulted
    → Adds config n r m f0 o1 f1 → Adds config n r m f1 o2 f2 → Adds config n r m f2 o3 f3 → Adds config n r m f3 o4 f4 → Adds config n r m f4 o5 f5
    → Adds config n r m f5 o6 f6 → FallsTo (shown_by n r) f6 m ↔ FallPaid config n r m
all_fallen config n r m o1 o2 o3 o4 o5 o6 f0 f1 f2 f3 f4 f5 f6 e0 e1 e2 e3 e4 e5 e6 a1 a2 a3 a4 a5 a6 = (
  λ h. elim (a6.0 h) [
    | inr y ↦ paid_faults config n r m o6 e6 y
    | inl h5 ↦ elim (a5.0 h5) [
      | inr y ↦ paid_if config n r m o5 n.falls.erred Erred e5 (λ b. b) y
      | inl h4 ↦ elim (a4.0 h4) [
        | inr y ↦ paid_if config n r m o4 n.falls.send_expired SendExpired e4 (λ b. b) y
        | inl h3 ↦ elim (a3.0 h3) [
          | inr y ↦ paid_if config n r m o3 n.falls.expired Expired e3 (λ b. b) y
          | inl h2 ↦ elim (a2.0 h2) [
            | inr y ↦ paid_if config n r m o2 n.falls.ceased Ceased e2 (λ b. b) y
            | inl h1 ↦ elim (a1.0 h1) [
              | inr y ↦ paid_if config n r m o1 n.falls.silent Silent e1 (λ b. b) y
              | inl h0 ↦ absurd (no_more (shown_by n r) f0 m e0 h0)
            ]
          ]
        ]
      ]
    ]
  ],
  λ k. (elim k.0 as (λ (f : Fall). HasFall n.falls f → Continues config r (fallen_member n f) m → FallsTo (shown_by n r) f6 m) [
    | Silent ↦ λ has c. a6.1 (inl (a5.1 (inl (a4.1 (inl (a3.1 (inl (a2.1 (inl (a1.1 (inr (Silent, e1 ∙ there_if n.falls.silent Silent has, c))))))))))))
    | Ceased ↦ λ has c. a6.1 (inl (a5.1 (inl (a4.1 (inl (a3.1 (inl (a2.1 (inr (Ceased, e2 ∙ there_if n.falls.ceased Ceased has, c))))))))))
    | Expired ↦ λ has c. a6.1 (inl (a5.1 (inl (a4.1 (inl (a3.1 (inr (Expired, e3 ∙ there_if n.falls.expired Expired has, c))))))))
    | SendExpired ↦ λ has c. a6.1 (inl (a5.1 (inl (a4.1 (inr (SendExpired, e4 ∙ there_if n.falls.send_expired SendExpired has, c))))))
    | Erred ↦ λ has c. a6.1 (inl (a5.1 (inr (Erred, e5 ∙ there_if n.falls.erred Erred has, c))))
    | Faulted s ↦ λ has c. a6.1 (inr (Faulted s, e6 ∙ ap faulted_by has, c))
  ]) k.1 k.2,
)
