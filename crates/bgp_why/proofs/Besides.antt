-- What is beside what is told: of the messages that could be sent in other orders the rest.
use Rattle.std.proofs.Common.{◌≡◌, ◌⊎◌, ◌≤◌, ◌==◌, ◌∷◌, ℕ, zero, suc, Bool, true, false, IsTrue, IfSome, IsSomeAnd, get_or, List, Option, None, Some, if◌then◌else◌, nat_le, refl, inl, inr, arith, subst, sym}
use Rattle.std.proofs.lemmas.Bool.Decides.{eqb_tells, leb_tells}
use Rattle.byteorder.specs.Endian.{big_bytes}
use Rattle.bgp_prefix.specs.Shown.{Sent}
use Rattle.bgp_wire.specs.declared.header.HeaderFaults.{HeaderFaults}
use Rattle.bgp_wire.specs.Verdict.{Names as NamesHeaderError}
use Rattle.bgp_open.specs.declared.config.Config.{Config}
use Rattle.bgp_open.specs.declared.link.Link.{Link}
use Rattle.bgp_open.specs.declared.subcodes.OpenSubcodes.{OpenSubcodes}
use Rattle.bgp_open.specs.OpenSubcodes.{Names as NamesOpenError}
use Rattle.bgp_update.specs.declared.subcodes.Subcodes.{Subcodes}
use Rattle.bgp_update.specs.Subcodes.{HasSubcode, marks_of}
use Rattle.bgp_machine.specs.Lists.{Has}
use Rattle.bgp_machine.specs.Want.{Tells, limit_on}
use Rattle.bgp_why_parts.specs.FsmErrors.{FsmErrors}
use Rattle.bgp_why_parts.specs.DeclaredPossible.{Possible}
use Rattle.bgp_why_parts.specs.Possible.{HasFsmError, IsAmong, IsNotified}
use Rattle.bgp_why.specs.Items.{all_items}
use Rattle.bgp_why.specs.Lines.{IsOfItem, OthersTellTheRest, items_told}
use Rattle.bgp_why.specs.OtherOrders.{beside, besides, count_beside, expiry_beside, fsm_errors_beside, header_errors_beside, open_errors_beside, update_errors_beside}
use Rattle.bgp_why.proofs.ToldLines.{among, has_some, some_of, told_if}

no : false ≡ true → ⊥
no e = cc

-- ---- one of a set

of_either : (one other : Bool) → IsTrue other → IsTrue one ⊎ IsTrue (beside one other)
of_either true other h = inl refl
of_either false true h = inr refl
of_either false false h = absurd (no h)

of_other : (one other : Bool) → IsTrue (beside one other) → IsTrue other
of_other one true h = refl
of_other one false h = absurd (no h)

-- a disjunction goes on by parts
both : {A B C D : Type 0} → A ⊎ B → (A → C) → (B → D) → C ⊎ D
both (inl a) f g = inl (f a)
both (inr b) f g = inr (g b)

module _ (P : ℕ → Type 0) where
  some_by : (one other : ℕ) (b : Bool) → ((b ≡ true) × (one ≡ other)) ⊎ ((b ≡ false) × (one ≡ other → ⊥)) → P other → P one ⊎ IsSomeAnd (if b then None else Some other) P
  some_by one other true (inl is) h = inl (subst P (sym is.1) h)
  some_by one other true (inr is) h = absurd (no (sym is.0))
  some_by one other false (inl is) h = absurd (no is.0)
  some_by one other false (inr is) h = inr h

  some_either : (one other : Option ℕ) → IsSomeAnd other P → IsSomeAnd one P ⊎ IsSomeAnd (count_beside one other) P
  some_either None other h = inr h
  some_either (Some one) None h = absurd h
  some_either (Some one) (Some other) h = some_by one other (one == other) (eqb_tells one other) h

  some_back : (other : ℕ) (b : Bool) → IsSomeAnd (if b then None else Some other) P → P other
  some_back other true h = absurd h
  some_back other false h = h

  some_other : (one other : Option ℕ) → IsSomeAnd (count_beside one other) P → IsSomeAnd other P
  some_other None other h = h
  some_other (Some one) None h = h
  some_other (Some one) (Some other) h = some_back other (one == other) h

module _ (s : ℕ) where
  expiry_by : (from x : ℕ) (b : Bool) → ((b ≡ true) × (from ≤ x)) ⊎ ((b ≡ false) × (suc x ≤ from)) → x ≤ s → (from ≤ s) ⊎ IsSomeAnd (if b then None else Some 0) (λ f. f ≤ s)
  expiry_by from x true (inl is) h = inl (let le = is.1 in omega (arith, le, h))
  expiry_by from x true (inr is) h = absurd (no (sym is.0))
  expiry_by from x false is h = inr (omega arith)

  expiry_either : (one other : Option ℕ) → IsSomeAnd other (λ f. f ≤ s) → IsSomeAnd one (λ f. f ≤ s) ⊎ IsSomeAnd (expiry_beside one other) (λ f. f ≤ s)
  expiry_either one None h = absurd h
  expiry_either None (Some x) h = inr (omega arith)
  expiry_either (Some from) (Some x) h = expiry_by from x (nat_le from x) (leb_tells from x) h

  expiry_other : (one other : Option ℕ) → IfSome other (λ f. f ≤ s) → IsSomeAnd (expiry_beside one other) (λ f. f ≤ s) → IsSomeAnd other (λ f. f ≤ s)
  expiry_other one None due h = h
  expiry_other one (Some x) due h = due

-- ---- errors

header_either : (one other : HeaderFaults) (s : ℕ) (d : List ℕ) → NamesHeaderError other s d → NamesHeaderError one s d ⊎ NamesHeaderError (header_errors_beside one other) s d
header_either one other s d (inl x) = both (of_either one.marker other.marker x.1) (λ a. inl (x.0, a)) (λ b. inl (x.0, b))
header_either one other s d (inr (inl x)) = both (some_either (λ v. d ≡ big_bytes 2 v) one.length other.length x.1) (λ a. inr (inl (x.0, a))) (λ b. inr (inl (x.0, b)))
header_either one other s d (inr (inr x)) = both (some_either (λ v. d ≡ big_bytes 1 v) one.kind other.kind x.1) (λ a. inr (inr (x.0, a))) (λ b. inr (inr (x.0, b)))

header_other : (one other : HeaderFaults) (s : ℕ) (d : List ℕ) → NamesHeaderError (header_errors_beside one other) s d → NamesHeaderError other s d
header_other one other s d (inl x) = inl (x.0, of_other one.marker other.marker x.1)
header_other one other s d (inr (inl x)) = inr (inl (x.0, some_other (λ v. d ≡ big_bytes 2 v) one.length other.length x.1))
header_other one other s d (inr (inr x)) = inr (inr (x.0, some_other (λ v. d ≡ big_bytes 1 v) one.kind other.kind x.1))

open_either : (one other : OpenSubcodes) (s : ℕ) (d : List ℕ) → NamesOpenError other s d → NamesOpenError one s d ⊎ NamesOpenError (open_errors_beside one other) s d
open_either one other s d (inl x) = both (of_either one.unspecific other.unspecific x.1) (λ a. (inl (x.0, a))) (λ b. (inl (x.0, b)))
open_either one other s d (inr (inl x)) = both (of_either one.version other.version x.2) (λ a. (inr (inl (x.0, x.1, a)))) (λ b. (inr (inl (x.0, x.1, b))))
open_either one other s d (inr (inr (inl x))) = both (of_either one.peer_as other.peer_as x.1) (λ a. (inr (inr (inl (x.0, a))))) (λ b. (inr (inr (inl (x.0, b)))))
open_either one other s d (inr (inr (inr (inl x)))) = both (of_either one.identifier other.identifier x.1) (λ a. (inr (inr (inr (inl (x.0, a)))))) (λ b. (inr (inr (inr (inl (x.0, b))))))
open_either one other s d (inr (inr (inr (inr (inl x))))) = both (of_either one.parameter other.parameter x.1) (λ a. (inr (inr (inr (inr (inl (x.0, a))))))) (λ b. (inr (inr (inr (inr (inl (x.0, b)))))))
open_either one other s d (inr (inr (inr (inr (inr (inl x)))))) = both (of_either one.hold other.hold x.1) (λ a. (inr (inr (inr (inr (inr (inl (x.0, a)))))))) (λ b. (inr (inr (inr (inr (inr (inl (x.0, b))))))))
open_either one other s d (inr (inr (inr (inr (inr (inr (inl x))))))) = both (of_either one.capability other.capability x.1) (λ a. (inr (inr (inr (inr (inr (inr (inl (x.0, a))))))))) (λ b. (inr (inr (inr (inr (inr (inr (inl (x.0, b)))))))))
open_either one other s d (inr (inr (inr (inr (inr (inr (inr x))))))) = both (of_either one.role other.role x.1) (λ a. (inr (inr (inr (inr (inr (inr (inr (x.0, a))))))))) (λ b. (inr (inr (inr (inr (inr (inr (inr (x.0, b)))))))))

open_other : (one other : OpenSubcodes) (s : ℕ) (d : List ℕ) → NamesOpenError (open_errors_beside one other) s d → NamesOpenError other s d
open_other one other s d (inl x) = (inl (x.0, of_other one.unspecific other.unspecific x.1))
open_other one other s d (inr (inl x)) = (inr (inl (x.0, x.1, of_other one.version other.version x.2)))
open_other one other s d (inr (inr (inl x))) = (inr (inr (inl (x.0, of_other one.peer_as other.peer_as x.1))))
open_other one other s d (inr (inr (inr (inl x)))) = (inr (inr (inr (inl (x.0, of_other one.identifier other.identifier x.1)))))
open_other one other s d (inr (inr (inr (inr (inl x))))) = (inr (inr (inr (inr (inl (x.0, of_other one.parameter other.parameter x.1))))))
open_other one other s d (inr (inr (inr (inr (inr (inl x)))))) = (inr (inr (inr (inr (inr (inl (x.0, of_other one.hold other.hold x.1)))))))
open_other one other s d (inr (inr (inr (inr (inr (inr (inl x))))))) = (inr (inr (inr (inr (inr (inr (inl (x.0, of_other one.capability other.capability x.1))))))))
open_other one other s d (inr (inr (inr (inr (inr (inr (inr x))))))) = (inr (inr (inr (inr (inr (inr (inr (x.0, of_other one.role other.role x.1))))))))

-- each mark is beside the other's
mark_beside : (one other : Subcodes) (n : ℕ) → get_or (marks_of (update_errors_beside one other)) n false ≡ beside (get_or (marks_of one) n false) (get_or (marks_of other) n false)
mark_beside one other zero = refl
mark_beside one other (suc zero) = refl
mark_beside one other (suc (suc zero)) = refl
mark_beside one other (suc (suc (suc zero))) = refl
mark_beside one other (suc (suc (suc (suc zero)))) = refl
mark_beside one other (suc (suc (suc (suc (suc zero))))) = refl
mark_beside one other (suc (suc (suc (suc (suc (suc zero)))))) = refl
mark_beside one other (suc (suc (suc (suc (suc (suc (suc zero))))))) = refl
mark_beside one other (suc (suc (suc (suc (suc (suc (suc (suc zero)))))))) = refl
mark_beside one other (suc (suc (suc (suc (suc (suc (suc (suc (suc zero))))))))) = refl
mark_beside one other (suc (suc (suc (suc (suc (suc (suc (suc (suc (suc zero)))))))))) = refl
mark_beside one other (suc (suc (suc (suc (suc (suc (suc (suc (suc (suc (suc zero))))))))))) = refl
mark_beside one other (suc (suc (suc (suc (suc (suc (suc (suc (suc (suc (suc (suc n)))))))))))) = refl

update_either : (one other : Subcodes) (n : ℕ) → HasSubcode other n → HasSubcode one n ⊎ HasSubcode (update_errors_beside one other) n
update_either one other n h =
    both (of_either (get_or (marks_of one) n false) (get_or (marks_of other) n false) h) (λ a. a) (λ b. subst IsTrue (sym (mark_beside one other n)) b)

update_other : (one other : Subcodes) (n : ℕ) → HasSubcode (update_errors_beside one other) n → HasSubcode other n
update_other one other n h =
    of_other (get_or (marks_of one) n false) (get_or (marks_of other) n false) (subst IsTrue (mark_beside one other n) h)

fsm_either : (one other : FsmErrors) (s : ℕ) → HasFsmError other s → HasFsmError one s ⊎ HasFsmError (fsm_errors_beside one other) s
fsm_either one other s (inl x) = both (of_either one.unspecified other.unspecified x.1) (λ a. (inl (x.0, a))) (λ b. (inl (x.0, b)))
fsm_either one other s (inr (inl x)) = both (of_either one.open_sent other.open_sent x.1) (λ a. (inr (inl (x.0, a)))) (λ b. (inr (inl (x.0, b))))
fsm_either one other s (inr (inr (inl x))) = both (of_either one.open_confirm other.open_confirm x.1) (λ a. (inr (inr (inl (x.0, a))))) (λ b. (inr (inr (inl (x.0, b)))))
fsm_either one other s (inr (inr (inr x))) = both (of_either one.established other.established x.1) (λ a. (inr (inr (inr (x.0, a))))) (λ b. (inr (inr (inr (x.0, b)))))

fsm_other : (one other : FsmErrors) (s : ℕ) → HasFsmError (fsm_errors_beside one other) s → HasFsmError other s
fsm_other one other s (inl x) = (inl (x.0, of_other one.unspecified other.unspecified x.1))
fsm_other one other s (inr (inl x)) = (inr (inl (x.0, of_other one.open_sent other.open_sent x.1)))
fsm_other one other s (inr (inr (inl x))) = (inr (inr (inl (x.0, of_other one.open_confirm other.open_confirm x.1))))
fsm_other one other s (inr (inr (inr x))) = (inr (inr (inr (x.0, of_other one.established other.established x.1))))

-- ---- messages

notified_either : (one other : Possible) (t c s : ℕ) (d : List ℕ) → IsNotified other t c s d → IsNotified one t c s d ⊎ IsNotified (besides one other) t c s d
notified_either one other t c s d (inl x) = both (header_either one.header_errors other.header_errors s d x.1) (λ a. (inl (x.0, a))) (λ b. (inl (x.0, b)))
notified_either one other t c s d (inr (inl x)) = both (open_either one.open_errors other.open_errors s d x.1) (λ a. (inr (inl (x.0, a)))) (λ b. (inr (inl (x.0, b))))
notified_either one other t c s d (inr (inr (inl x))) = both (update_either one.update_errors other.update_errors s x.1) (λ a. (inr (inr (inl (x.0, a))))) (λ b. (inr (inr (inl (x.0, b)))))
notified_either one other t c s d (inr (inr (inr (inl x)))) = both (expiry_either t one.hold_timer_expired other.hold_timer_expired x.2) (λ a. (inr (inr (inr (inl (x.0, x.1, a)))))) (λ b. (inr (inr (inr (inl (x.0, x.1, b))))))
notified_either one other t c s d (inr (inr (inr (inr (inl x))))) = both (fsm_either one.fsm_errors other.fsm_errors s x.1) (λ a. (inr (inr (inr (inr (inl (x.0, a))))))) (λ b. (inr (inr (inr (inr (inl (x.0, b)))))))
notified_either one other t c s d (inr (inr (inr (inr (inr (inl x)))))) = both (of_either one.cease other.cease x.1) (λ a. (inr (inr (inr (inr (inr (inl (x.0, a)))))))) (λ b. (inr (inr (inr (inr (inr (inl (x.0, b))))))))
notified_either one other t c s d (inr (inr (inr (inr (inr (inr x)))))) = both (of_either one.send_hold_timer_expired other.send_hold_timer_expired x.2) (λ a. (inr (inr (inr (inr (inr (inr (x.0, x.1, a)))))))) (λ b. (inr (inr (inr (inr (inr (inr (x.0, x.1, b))))))))

notified_other : (one other : Possible) (t c s : ℕ) (d : List ℕ) → IfSome other.hold_timer_expired (λ from. from ≤ t) → IsNotified (besides one other) t c s d → IsNotified other t c s d
notified_other one other t c s d due (inl x) = (inl (x.0, header_other one.header_errors other.header_errors s d x.1))
notified_other one other t c s d due (inr (inl x)) = (inr (inl (x.0, open_other one.open_errors other.open_errors s d x.1)))
notified_other one other t c s d due (inr (inr (inl x))) = (inr (inr (inl (x.0, update_other one.update_errors other.update_errors s x.1))))
notified_other one other t c s d due (inr (inr (inr (inl x)))) = (inr (inr (inr (inl (x.0, x.1, expiry_other t one.hold_timer_expired other.hold_timer_expired due x.2)))))
notified_other one other t c s d due (inr (inr (inr (inr (inl x))))) = (inr (inr (inr (inr (inl (x.0, fsm_other one.fsm_errors other.fsm_errors s x.1))))))
notified_other one other t c s d due (inr (inr (inr (inr (inr (inl x)))))) = (inr (inr (inr (inr (inr (inl (x.0, of_other one.cease other.cease x.1)))))))
notified_other one other t c s d due (inr (inr (inr (inr (inr (inr x)))))) = (inr (inr (inr (inr (inr (inr (x.0, x.1, of_other one.send_hold_timer_expired other.send_hold_timer_expired x.2)))))))

module _ (config : Config) (link : Option Link) (one other : Possible) (t : ℕ) (o : List ℕ) where
  among_either : IsAmong config link other (Sent t o) → IsAmong config link one (Sent t o) ⊎ IsAmong config link (besides one other) (Sent t o)
  among_either (frame, inl x) = both (of_either one.own_open other.own_open x.0) (λ a. (frame, inl (a, x.1))) (λ b. (frame, inl (b, x.1)))
  among_either (frame, inr (inl x)) = both (of_either one.keepalive other.keepalive x.0) (λ a. (frame, inr (inl (a, x.1)))) (λ b. (frame, inr (inl (b, x.1))))
  among_either (frame, inr (inr (inl x))) = both (of_either one.update other.update x.0) (λ a. (frame, inr (inr (inl (a, x.1))))) (λ b. (frame, inr (inr (inl (b, x.1)))))
  among_either (frame, inr (inr (inr (c, s, d, is, x)))) =
      both (notified_either one other t c s d x) (λ a. (frame, inr (inr (inr (c, s, d, is, a))))) (λ b. (frame, inr (inr (inr (c, s, d, is, b)))))

  among_other : IfSome other.hold_timer_expired (λ from. from ≤ t) → IsAmong config link (besides one other) (Sent t o) → IsAmong config link other (Sent t o)
  among_other due (frame, inl x) = (frame, inl (of_other one.own_open other.own_open x.0, x.1))
  among_other due (frame, inr (inl x)) = (frame, inr (inl (of_other one.keepalive other.keepalive x.0, x.1)))
  among_other due (frame, inr (inr (inl x))) = (frame, inr (inr (inl (of_other one.update other.update x.0, x.1))))
  among_other due (frame, inr (inr (inr (c, s, d, is, x)))) = (frame, inr (inr (inr (c, s, d, is, notified_other one other t c s d due x))))

pub the_rest : OthersTellTheRest
the_rest config link told others = record {
  all = λ t o h. both (among_either config link told others t o h)
      (λ a. has_some (IsOfItem config link (Sent t o)) (all_items told) (told_if config link told (Sent t o) a))
      (λ b. has_some (IsOfItem config link (Sent t o)) (all_items (besides told others)) (told_if config link (besides told others) (Sent t o) b));
  only = λ t o due h. among_other config link told others t o due
      (among config link (besides told others) (Sent t o) (some_of (IsOfItem config link (Sent t o)) (all_items (besides told others)) h));
}
