-- The members that have nothing left to show.
use Rattle.std.proofs.Common.{◌≡◌, inl, inr, false, IsTrue, [], None, refl, sym, ap, subst, ◌∙◌}
use Rattle.bgp_open.specs.declared.families.Families.{Families}
use Rattle.bgp_machine.specs.declared.fsm.Fsm.{Fsm}
use Rattle.bgp_machine.specs.declared.fsm.Fsm.TheVariants as fsms
use Rattle.bgp_machine.specs.declared.state.Head.TheVariants.{Idle}
use Rattle.bgp_machine.specs.State.{fsm_of, fresh_state}
use Rattle.bgp_machine.specs.Step.{changed}
use Rattle.bgp_machine.specs.Want.{wants_of}
use Rattle.bgp_machine.proofs.Moves.{without_no_family}
use Rattle.bgp_rib.specs.Routes.{Routes, no_routes, routes_without}
use Rattle.bgp_judge.specs.Member.{Member, IsFree}
use Rattle.bgp_compact.specs.declared.base.Base.{Base}
use Rattle.bgp_compact.specs.declared.falls.Fall.{Fall}
use Rattle.bgp_compact.specs.declared.falls.Fall.TheVariants.{Silent, Ceased, Expired, SendExpired, Erred, Faulted}
use Rattle.bgp_compact.specs.declared.words.Words.{Words}
use Rattle.bgp_compact.specs.Disabled.{holds, only_none}
use Rattle.bgp_compact.specs.Members.{HasFall, GoesOn, front_member, fallen_member, left_of, sends_of}
use Rattle.bgp_compact.specs.Members.IsMember.{Front, Fallen}
use Rattle.bgp_compact.specs.Parts.{AreFine, IsBase, HasNoBase, free_member}
use Rattle.bgp_compact.specs.Standing.{IsTableOf}
use Rattle.bgp_compact.proofs.AllPaid.{shows_up, goes_where}
use Rattle.bgp_compact.proofs.PartPaid.{same_state}
use Rattle.bgp_compact.proofs.SetsOfSets.{only_is_none}

-- ---- in Idle

abbrev pub fresh_base : Base
fresh_base = record { head = Idle; sets = only_none }

pub idle_not_up : (shown : Fsm) → shown ≡ fsms.Idle → shown ≡ fsms.Established → ⊥
idle_not_up shown e f = let k : fsms.Idle ≡ fsms.Established = sym e ∙ f in cc

idle_routes : (table : Routes) (d : Families) → table ≡ no_routes → d ≡ record { v4 = false; v6 = false } → routes_without d table ≡ no_routes
idle_routes table d e f =
    ap (λ (v : Routes). routes_without d v) e ∙ ap (λ (v : Families). routes_without v no_routes) f ∙ without_no_family no_routes

idle_state : (table : Routes) (d : Families) → table ≡ no_routes → d ≡ record { v4 = false; v6 = false } → record { head = Idle; routes = routes_without d table } ≡ fresh_state
idle_state table d e f =
    ap (λ (v : Routes). record { head = Idle; routes = routes_without d v }) e
    ∙ ap (λ (v : Families). record { head = Idle; routes = routes_without v no_routes }) f
    ∙ ap (λ (v : Routes). record { head = Idle; routes = v }) (without_no_family no_routes)

changed_same : (a b : Fsm) → a ≡ b → changed a b ≡ None
changed_same a b e = subst (λ (v : Fsm). changed a v ≡ None) e (same_state a)

silent_is_free : (n : Words) (table : Routes) (d : Families) → n.shown ≡ fsms.Idle → IsTableOf n table → IsTrue (holds only_none d) → fallen_member n Silent ≡ free_member Idle table d
silent_is_free n table d e is h =
    let s : fresh_state ≡ record { head = Idle; routes = routes_without d table } = sym (idle_state table d (is.empty (idle_not_up n.shown e)) (only_is_none d h)) in
    let k : changed n.shown fsms.Idle ≡ None = changed_same n.shown fsms.Idle e in
    λ i. record { state = s i; link = None; wants = []; change = k i }

-- a member that falls and has nothing left to show falls silently
free_fall : (n : Words) (fall : Fall) → AreFine n → HasFall n.falls fall → sends_of (left_of n) fall ≡ [] → fall ≡ Silent
free_fall n Silent fine has e = refl
free_fall n Ceased fine has e = absurd (let k : ⊥ = cc in k)
free_fall n Expired fine has e = absurd (let k : ⊥ = cc in k)
free_fall n SendExpired fine has e = absurd (let k : ⊥ = cc in k)
free_fall n Erred fine has e = absurd (fine.errors has e)
free_fall n (Faulted s) fine has e = absurd (let k : ⊥ = cc in k)

fall_is_silent : (n : Words) (m : Member) (fall : Fall) → AreFine n → HasFall n.falls fall → m ≡ fallen_member n fall → IsFree m → fall ≡ Silent
fall_is_silent n m fall fine has e free = free_fall n fall fine has (sym (ap (λ (v : Member). v.wants) e) ∙ free.0)

pub idle_base : (n : Words) → AreFine n → n.shown ≡ fsms.Idle → IsTrue n.falls.silent → IsBase n fresh_base
idle_base n fine e bit = record {
  name = sym e;
  undelayed = refl;
  some = (record { v4 = false; v6 = false }, refl);
  alone = inl e;
  head_is = inl e;
  fresh = λ table is d h idle. idle_routes table d (is.empty (idle_not_up n.shown e)) (only_is_none d h);
  to = λ table is d h. Fallen Silent bit (sym (silent_is_free n table d e is h));
  from = λ table is m member free. elim member [
    | Front d on q ↦ absurd ((shows_up n.shown n.sets d on).0 e)
    | Fallen fall has q ↦
        let k = fall_is_silent n m fall fine has q free in
        (record { v4 = false; v6 = false }, refl, q ∙ ap (λ (v : Fall). fallen_member n v) k ∙ silent_is_free n table (record { v4 = false; v6 = false }) e is refl)
  ];
}

pub no_idle_base : (n : Words) → AreFine n → n.shown ≡ fsms.Idle → (IsTrue n.falls.silent → ⊥) → HasNoBase n
no_idle_base n fine e off = λ table m member free. elim member [
  | Front d on q ↦ (shows_up n.shown n.sets d on).0 e
  | Fallen fall has q ↦ off (subst (λ (v : Fall). HasFall n.falls v) (fall_is_silent n m fall fine has q free) has)
]

-- ---- else

pub not_to_idle : (shown : Fsm) → changed shown fsms.Idle ≡ None → shown ≡ fsms.Idle
not_to_idle fsms.Idle e = refl
not_to_idle fsms.Connect e = absurd (let k : ⊥ = cc in k)
not_to_idle fsms.Active e = absurd (let k : ⊥ = cc in k)
not_to_idle fsms.OpenSent e = absurd (let k : ⊥ = cc in k)
not_to_idle fsms.OpenConfirm e = absurd (let k : ⊥ = cc in k)
not_to_idle fsms.Established e = absurd (let k : ⊥ = cc in k)

front_is_free : (n : Words) (table : Routes) (d : Families) → wants_of n.wants ≡ [] → changed n.shown (fsm_of n.head) ≡ None → front_member n table d ≡ free_member n.head table d
front_is_free n table d w c = λ i. record { state = record { head = n.head; routes = routes_without d table }; link = None; wants = w i; change = c i }

pub up_base : (n : Words) → AreFine n → (n.shown ≡ fsms.Idle → ⊥) → wants_of n.wants ≡ [] → fsm_of n.head ≡ n.shown → (d : Families) × IsTrue (holds n.sets d)
    → IsBase n (record { head = n.head; sets = n.sets })
up_base n fine up w e some =
    let c : changed n.shown (fsm_of n.head) ≡ None = changed_same n.shown (fsm_of n.head) (sym e) in
    record {
      name = e;
      undelayed = fine.undelayed some.0 (goes_where n.shown n.sets some.0 up some.1);
      some = some;
      alone = inr (w, c);
      head_is = inr refl;
      fresh = λ table is d h idle. absurd (up (sym e ∙ ap fsm_of idle));
      to = λ table is d h. Front d (goes_where n.shown n.sets d up h) (sym (front_is_free n table d w c));
      from = λ table is m member free. elim member [
        | Front d on q ↦ (d, (shows_up n.shown n.sets d on).1, q ∙ front_is_free n table d w c)
        | Fallen fall has q ↦ absurd (up (not_to_idle n.shown (sym (ap (λ (v : Member). v.change) q) ∙ free.1)))
      ];
    }

-- a member that goes on has something left to show, or none goes on
pub no_up_base : (n : Words) → (n.shown ≡ fsms.Idle → ⊥)
    → ((d : Families) → GoesOn n d → wants_of n.wants ≡ [] → changed n.shown (fsm_of n.head) ≡ None → ⊥) → HasNoBase n
no_up_base n up owes = λ table m member free. elim member [
  | Front d on q ↦ owes d on (sym (ap (λ (v : Member). v.wants) q) ∙ free.0) (sym (ap (λ (v : Member). v.change) q) ∙ free.1)
  | Fallen fall has q ↦ up (not_to_idle n.shown (sym (ap (λ (v : Member). v.change) q) ∙ free.1))
]
