-- What a record leaves of members: of those that go on, and of all.
use Rattle.std.proofs.Common.{◌≡◌, ◌↔◌, ◌⊎◌, ℕ, inl, inr, IsTrue, List, Option, None, refl, sym, ap, subst, ◌∙◌}
use Rattle.bgp_prefix.specs.Shown.{ShownRecord, Received}
use Rattle.bgp_open.specs.declared.config.Config.{Config}
use Rattle.bgp_open.specs.declared.families.Families.{Families}
use Rattle.bgp_machine.specs.declared.fsm.Fsm.{Fsm}
use Rattle.bgp_machine.specs.declared.fsm.Fsm.TheVariants as fsms
use Rattle.bgp_machine.specs.declared.want.Want.{Want}
use Rattle.bgp_machine.specs.declared.want.Wants.{Wants}
use Rattle.bgp_machine.specs.Going.{told, shown_after}
use Rattle.bgp_machine.specs.Shows.{Pays}
use Rattle.bgp_machine.specs.State.{fsm_of}
use Rattle.bgp_machine.specs.Step.{changed}
use Rattle.bgp_machine.specs.Want.{wants_of}
use Rattle.bgp_rib.specs.Routes.{Routes, routes_without}
use Rattle.bgp_judge.specs.Member.{Member, link_for}
use Rattle.bgp_judge.specs.Next.{Continues}
use Rattle.bgp_judge.proofs.Paying.{pays_nothing}
use Rattle.bgp_compact.specs.declared.disabled.DisabledSets.{DisabledSets}
use Rattle.bgp_compact.specs.declared.falls.Fall.{Fall}
use Rattle.bgp_compact.specs.declared.falls.Falls.{Falls}
use Rattle.bgp_compact.specs.declared.words.Words.{Words}
use Rattle.bgp_compact.specs.Disabled.{holds, no_sets}
use Rattle.bgp_compact.specs.Members.{HasFall, GoesOn, IsMember, sets_where, front_member, fallen_member, left_of, no_falls}
use Rattle.bgp_compact.specs.Members.IsMember.{Front, Fallen}
use Rattle.bgp_compact.specs.Parts.{shown_by, LeavesSends, NoFrontPaid, FrontLeaves, PaidTo, FallsTo, FallPaid, AreFallsOf, AreFine}
use Rattle.bgp_compact.proofs.FallsPaid.{paid_stays}
use Rattle.bgp_compact.proofs.OneFall.{none_falls}
use Rattle.bgp_compact.proofs.PartPaid.{Part, part, link_none}
use Rattle.bgp_compact.proofs.SetsOfSets.{holds_none}

-- ---- where some member goes on, Idle isn't shown

pub shows_up : (shown : Fsm) (sets : DisabledSets) (d : Families) → IsTrue (holds (sets_where shown sets) d) → (shown ≡ fsms.Idle → ⊥) × IsTrue (holds sets d)
shows_up fsms.Idle sets d h = absurd (holds_none d h)
shows_up fsms.Connect sets d h = (λ e. cc, h)
shows_up fsms.Active sets d h = (λ e. cc, h)
shows_up fsms.OpenSent sets d h = (λ e. cc, h)
shows_up fsms.OpenConfirm sets d h = (λ e. cc, h)
shows_up fsms.Established sets d h = (λ e. cc, h)

pub goes_where : (shown : Fsm) (sets : DisabledSets) (d : Families) → (shown ≡ fsms.Idle → ⊥) → IsTrue (holds sets d) → IsTrue (holds (sets_where shown sets) d)
goes_where fsms.Idle sets d up h = absurd (up refl)
goes_where fsms.Connect sets d up h = h
goes_where fsms.Active sets d up h = h
goes_where fsms.OpenSent sets d up h = h
goes_where fsms.OpenConfirm sets d up h = h
goes_where fsms.Established sets d up h = h

pub none_goes : (shown : Fsm) (d : Families) → IsTrue (holds (sets_where shown no_sets) d) → ⊥
none_goes fsms.Idle d h = holds_none d h
none_goes fsms.Connect d h = holds_none d h
none_goes fsms.Active d h = holds_none d h
none_goes fsms.OpenSent d h = holds_none d h
none_goes fsms.OpenConfirm d h = holds_none d h
none_goes fsms.Established d h = holds_none d h

-- ---- what is left of a member that goes on

pub front_left : (config : Config) (n : Words) (table : Routes) (d : Families) (r : ShownRecord) (m : Member) (w2 : Wants) (falls : Falls) (sets : DisabledSets)
    → Continues config r (front_member n table d) m → m.wants ≡ wants_of w2
    → m ≡ front_member (record (shown_by n r) { wants = w2; falls = falls; sets = sets }) table d
front_left config n table d r m w2 falls sets c e =
    let p : Part config None r (wants_of n.wants) n.shown (fsm_of n.head) m.wants m.change =
    part config None r (wants_of n.wants) n.shown (fsm_of n.head) m.wants m.change c.pays in
    let k : m.link ≡ None = c.link ∙ link_none m.wants in
    λ i. record { state = c.state i; link = k i; wants = e i; change = p.is_owed i }

-- Idle isn't shown behind it
still_up : (config : Config) (n : Words) (r : ShownRecord) (left : List Want) (still : Option (Fsm × Fsm)) → (n.shown ≡ fsms.Idle → ⊥) → (fsm_of n.head ≡ fsms.Idle → ⊥)
    → Part config None r (wants_of n.wants) n.shown (fsm_of n.head) left still → shown_after n.shown (told r) ≡ fsms.Idle → ⊥
still_up config n r left still up head p e = elim p.way [
  | inl a ↦ up (sym (ap (λ (v : Option Fsm). shown_after n.shown v) a.0) ∙ e)
  | inr b ↦ head (sym (ap (λ (v : Option Fsm). shown_after n.shown v) b.0) ∙ e)
]

front_continues : (config : Config) (n : Words) (table : Routes) (d : Families) (r : ShownRecord) (w2 : Wants) (falls : Falls) (sets : DisabledSets)
    → LeavesSends config None r (wants_of n.wants) (changed n.shown (fsm_of n.head)) (wants_of w2)
    → Continues config r (front_member n table d) (front_member (record (shown_by n r) { wants = w2; falls = falls; sets = sets }) table d)
front_continues config n table d r w2 falls sets leaves =
    let x : Member = record {
      state = record { head = n.head; routes = routes_without d table };
      link = link_for (wants_of w2) None;
      wants = wants_of w2;
      change = leaves.still;
    } in
    let c : Continues config r (front_member n table d) x = record { pays = leaves.pays; state = refl; link = refl } in
    subst (λ (v : Member). Continues config r (front_member n table d) v) (front_left config n table d r x w2 falls sets c refl) c

-- ---- what is left of all

fallen_sound : (config : Config) (n : Words) (r : ShownRecord) (next : Words) (table : Routes) (m2 : Member) → FallPaid config n r m2
    → (m : Member) × IsMember n table m × Continues config r m m2
fallen_sound config n r next table m2 k = (fallen_member n k.0, Fallen k.0 k.1 refl, k.2)

fall_stays : (config : Config) (n : Words) (r : ShownRecord) (falls : Falls) (fall : Fall)
    → ((m : Member) → FallsTo (shown_by n r) falls m ↔ FallPaid config n r m) → HasFall falls fall
    → (shown_after n.shown (told r) ≡ n.shown) ⊎ (shown_after n.shown (told r) ≡ fsms.Idle)
fall_stays config n r falls fall fallen has =
    let k = (fallen (fallen_member (shown_by n r) fall)).0 (fall, has, refl) in
    paid_stays config n k.0 r (fallen_member (shown_by n r) fall) k.2

pub paid_some : (config : Config) (n : Words) (r : ShownRecord) (w2 : Wants) (falls : Falls) → AreFine n → FrontLeaves config n r (wants_of w2)
    → ((m : Member) → FallsTo (shown_by n r) falls m ↔ FallPaid config n r m) → AreFallsOf n.falls falls
    → PaidTo config n r (record (shown_by n r) { wants = w2; falls = falls })
paid_some config n r w2 falls fine leaves fallen faults =
    let next : Words = record (shown_by n r) { wants = w2; falls = falls } in
    let front : Part config None r (wants_of n.wants) n.shown (fsm_of n.head) (wants_of w2) leaves.1.still =
    part config None r (wants_of n.wants) n.shown (fsm_of n.head) (wants_of w2) leaves.1.still leaves.1.pays in
    let went : (d : Families) → GoesOn next d → GoesOn n d =
    λ d h. goes_where n.shown n.sets d leaves.0 (shows_up next.shown n.sets d h).1 in
    record {
      shown_is = refl;
      left_is = refl;
      head_is = refl;
      sound = λ table m2 h. elim h [
        | Front d on e ↦ (
          front_member n table d,
          Front d (went d on) refl,
          subst (λ (v : Member). Continues config r (front_member n table d) v) (sym e) (front_continues config n table d r w2 falls n.sets leaves.1),
        )
        | Fallen f has e ↦ fallen_sound config n r next table m2 ((fallen m2).0 (f, has, e))
      ];
      whole = λ table m m2 h c. elim h [
        | Front d on e ↦
            let c2 : Continues config r (front_member n table d) m2 = subst (λ (v : Member). Continues config r v m2) e c in
            let k = leaves.1.only m2.wants m2.change c2.pays in
            let up = shows_up n.shown n.sets d on in
            Front d (goes_where next.shown n.sets d (still_up config n r (wants_of w2) leaves.1.still up.0 (fine.are_up d on) front) up.1)
            (front_left config n table d r m2 w2 falls n.sets c2 (sym k.0))
        | Fallen f has e ↦
            let c2 : Continues config r (fallen_member n f) m2 = subst (λ (v : Member). Continues config r v m2) e c in
            let k = (fallen m2).1 (f, has, c2) in Fallen k.0 k.1 k.2
      ];
      went_on = went;
      owed = λ d on free. pays_nothing config None r (wants_of w2) leaves.1.still
          (subst (λ (v : List Want). Pays config None r v None (wants_of w2) leaves.1.still) free.0
          (subst (λ (v : Option (Fsm × Fsm)). Pays config None r (wants_of n.wants) v (wants_of w2) leaves.1.still) free.1 leaves.1.pays));
      falls = faults;
      show = λ d on. elim front.way [
        | inl a ↦ inl (ap (λ (v : Option Fsm). shown_after n.shown v) a.0)
        | inr b ↦ inr (ap (λ (v : Option Fsm). shown_after n.shown v) b.0)
      ];
      stays = λ fall has. fall_stays config n r falls fall fallen has;
    }

pub paid_none : (config : Config) (n : Words) (r : ShownRecord) (falls : Falls) → NoFrontPaid config n r
    → ((m : Member) → FallsTo (shown_by n r) falls m ↔ FallPaid config n r m) → AreFallsOf n.falls falls
    → PaidTo config n r (record (shown_by n r) { sets = no_sets; falls = falls })
paid_none config n r falls none fallen faults =
    let next : Words = record (shown_by n r) { sets = no_sets; falls = falls } in
    record {
      shown_is = refl;
      left_is = refl;
      head_is = refl;
      sound = λ table m2 h. elim h [
        | Front d on e ↦ absurd (none_goes next.shown d on)
        | Fallen f has e ↦ fallen_sound config n r next table m2 ((fallen m2).0 (f, has, e))
      ];
      whole = λ table m m2 h c. elim h [
        | Front d on e ↦
            let c2 : Continues config r (front_member n table d) m2 = subst (λ (v : Member). Continues config r v m2) e c in
            absurd (elim none [
              | inl idle ↦ (shows_up n.shown n.sets d on).0 idle
              | inr nothing ↦ nothing m2.wants m2.change c2.pays
            ])
        | Fallen f has e ↦
            let c2 : Continues config r (fallen_member n f) m2 = subst (λ (v : Member). Continues config r v m2) e c in
            let k = (fallen m2).1 (f, has, c2) in Fallen k.0 k.1 k.2
      ];
      went_on = λ d on. absurd (none_goes next.shown d on);
      owed = λ d on free. none_goes next.shown d on;
      show = λ d on. absurd (none_goes next.shown d on);
      falls = faults;
      stays = λ fall has. fall_stays config n r falls fall fallen has;
    }

-- a message that was received leaves none

pub none_left : (config : Config) (n next : Words) (t : ℕ) (octets : List ℕ) → next.shown ≡ n.shown → next.left ≡ left_of n → next.head ≡ n.head → next.wants ≡ n.wants
    → next.sets ≡ no_sets → next.falls ≡ no_falls → PaidTo config n (Received t octets) next
none_left config n next t octets shown left head wants sets falls =
    subst (λ (v : Words). PaidTo config n (Received t octets) v)
    (λ i. record { shown = sym shown i; left = sym left i; head = sym head i; wants = sym wants i; sets = sym sets i; falls = sym falls i })
    (paid_none config n (Received t octets) no_falls (inr (λ left still pays. pays))
    (λ m. (λ fallen. absurd (none_falls fallen.0 fallen.1), λ paid. absurd (paid.2.pays)))
    (λ fall has. absurd (none_falls fall has)))
