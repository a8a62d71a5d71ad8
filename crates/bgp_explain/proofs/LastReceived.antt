-- Which record is told as the message that was received last, one record after another.
use Rattle.std.proofs.Common.{◌≡◌, ◌≢◌, ◌∙◌, ◌+◌, ◌++◌, ℕ, List, [], ◌∷◌, Option, None, Some, length, refl, sym, ap, subst, append-nil, append_assoc}
use Rattle.std.specs.List.{AllByRecursion}
use Rattle.bgp_prefix.specs.Shown.{ShownRecord, Received, Sent, Changed}
use Rattle.bgp_machine.specs.declared.fsm.Fsm.{Fsm}
use Rattle.bgp_machine.specs.declared.fsm.Fsm.TheVariants as fsms
use Rattle.bgp_machine.specs.Going.{fsm_at}
use Rattle.bgp_reason.specs.declared.told.Told.{Told}
use Rattle.bgp_reason.specs.Told.{ToldOneMore, last_from, last_message, told, told_by_change, told_by_message, told_with}
use Rattle.bgp_explain.specs.LastReceived.{IsLastReceived, IsQuiet, LastReceivedIsTold, NoneSinceIdle}

-- ---- the last message, with one record more

last_received : (last : List ℕ) (xs : List ShownRecord) (second : ℕ) (octets : List ℕ) → last_from last (xs ++ Received second octets ∷ []) ≡ octets
last_received last [] second octets = refl
last_received last (Received s o ∷ xs) second octets = last_received o xs second octets
last_received last (Sent s o ∷ xs) second octets = last_received last xs second octets
last_received last (Changed s x y ∷ xs) second octets = last_received last xs second octets

last_quiet : (last : List ℕ) (xs : List ShownRecord) (shown : ShownRecord) → IsQuiet shown → last_from last (xs ++ shown ∷ []) ≡ last_from last xs
last_quiet last [] (Received s o) quiet = absurd quiet
last_quiet last [] (Sent s o) quiet = refl
last_quiet last [] (Changed s x y) quiet = refl
last_quiet last (Received s o ∷ xs) shown quiet = last_quiet o xs shown quiet
last_quiet last (Sent s o ∷ xs) shown quiet = last_quiet last xs shown quiet
last_quiet last (Changed s x y ∷ xs) shown quiet = last_quiet last xs shown quiet

-- ---- what stands after it

quiet_behind : (xs : List ShownRecord) (shown : ShownRecord) → AllByRecursion IsQuiet xs → IsQuiet shown → AllByRecursion IsQuiet (xs ++ shown ∷ [])
quiet_behind [] shown all quiet = (quiet, tt)
quiet_behind (x ∷ xs) shown all quiet = (all.0, quiet_behind xs shown all.1 quiet)

extended : (p : List ShownRecord) (shown : ShownRecord) (o : Option ℕ) → IsQuiet shown → IsLastReceived p o → IsLastReceived (p ++ shown ∷ []) o
extended p shown None quiet is = record {
  before = is.before;
  after = is.after ++ shown ∷ [];
  whole = ap (λ (v : List ShownRecord). v ++ shown ∷ []) is.whole ∙ append_assoc is.before is.after (shown ∷ []);
  idle = is.idle;
  quiet = quiet_behind is.after shown is.quiet quiet;
}
extended p shown (Some n) quiet is =
    let octets : last_message p ≡ last_message (p ++ shown ∷ []) = sym (last_quiet [] p shown quiet) in record {
      before = is.before;
      second = is.second;
      after = is.after ++ shown ∷ [];
      whole = ap (λ (v : List ShownRecord). v ++ shown ∷ []) is.whole ∙ append_assoc is.before (Received is.second (last_message p) ∷ is.after) (shown ∷ [])
          ∙ ap (λ (o : List ℕ). is.before ++ Received is.second o ∷ (is.after ++ shown ∷ [])) octets;
      number = is.number;
      going = is.going;
      quiet = quiet_behind is.after shown is.quiet quiet;
    }

-- Idle is told
at_idle : (q : List ShownRecord) → (told q).state ≡ fsms.Idle → NoneSinceIdle q
at_idle q idle = record { before = q; after = []; whole = sym (append-nil q); idle = idle; quiet = tt }

-- ---- one record more

record Holds (p : List ShownRecord) (t : Told) : Type 0 where
  pub is : IsLastReceived p t.last_received
  pub none : t.state ≡ fsms.Idle → t.last_received ≡ None

module _ (one_more : ToldOneMore) (p : List ShownRecord) (t : Told) (same : told p ≡ t) (holds : Holds p t) where
  -- with one more this is told
  told_more : (shown : ShownRecord) → told (p ++ shown ∷ []) ≡ told_with (length p + 1) shown t
  told_more shown = one_more p shown ∙ ap (λ (v : Told). told_with (length p + 1) shown v) same

  quietly : (shown : ShownRecord) (after : Told) → IsQuiet shown → after.last_received ≡ t.last_received → (after.state ≡ fsms.Idle → t.state ≡ fsms.Idle) → Holds (p ++ shown ∷ []) after
  quietly shown after quiet last idle = record {
    is = subst (λ (o : Option ℕ). IsLastReceived (p ++ shown ∷ []) o) (sym last) (extended p shown t.last_received quiet holds.is);
    none = λ e. last ∙ holds.none (idle e);
  }

  -- a message in another state than Idle
  named : (second : ℕ) (octets : List ℕ) → t.state ≢ fsms.Idle → Holds (p ++ Received second octets ∷ []) (record t { last_received = Some (length p + 1) })
  named second octets going = record {
    is = record {
      before = p;
      second = second;
      after = [];
      whole = ap (λ (o : List ℕ). p ++ Received second o ∷ []) (sym (last_received [] p second octets));
      number = refl;
      going = λ e. going (ap (λ (v : Told). v.state) (sym same) ∙ e);
      quiet = tt;
    };
    none = λ e. absurd (going e);
  }

  received : (second : ℕ) (octets : List ℕ) (f : Fsm) → t.state ≡ f → told (p ++ Received second octets ∷ []) ≡ told_by_message (length p + 1) f t
      → Holds (p ++ Received second octets ∷ []) (told_by_message (length p + 1) f t)
  received second octets fsms.Idle is so = record {
    is = subst (λ (o : Option ℕ). IsLastReceived (p ++ Received second octets ∷ []) o) (sym (holds.none is))
        (at_idle (p ++ Received second octets ∷ []) (ap (λ (v : Told). v.state) so ∙ is));
    none = holds.none;
  }
  received second octets fsms.Connect is so = named second octets (λ e. absurd cc)
  received second octets fsms.Active is so = named second octets (λ e. absurd cc)
  received second octets fsms.OpenSent is so = named second octets (λ e. absurd cc)
  received second octets fsms.OpenConfirm is so = named second octets (λ e. absurd cc)
  received second octets fsms.Established is so = named second octets (λ e. absurd cc)

  changed : (second old new : ℕ) (o : Option Fsm) → fsm_at new ≡ o → told (p ++ Changed second old new ∷ []) ≡ told_by_change (length p + 1) o t
      → Holds (p ++ Changed second old new ∷ []) (told_by_change (length p + 1) o t)
  changed second old new None is so = quietly (Changed second old new) t (λ e. absurd cc) refl (λ e. e)
  changed second old new (Some fsms.Idle) is so = record {
    is = at_idle (p ++ Changed second old new ∷ []) (ap (λ (v : Told). v.state) so);
    none = λ e. refl;
  }
  changed second old new (Some fsms.Connect) is so = quietly (Changed second old new) _ (λ e. absurd cc) refl (λ e. absurd cc)
  changed second old new (Some fsms.Active) is so = quietly (Changed second old new) _ (λ e. absurd cc) refl (λ e. absurd cc)
  changed second old new (Some fsms.OpenSent) is so = quietly (Changed second old new) _ (λ e. absurd cc) refl (λ e. absurd cc)
  changed second old new (Some fsms.OpenConfirm) is so = quietly (Changed second old new) _ (λ e. absurd cc) refl (λ e. absurd cc)
  changed second old new (Some fsms.Established) is so = quietly (Changed second old new) _ (λ e. absurd cc) refl (λ e. absurd cc)

  with_one : (shown : ShownRecord) → Holds (p ++ shown ∷ []) (told_with (length p + 1) shown t)
  with_one (Received second octets) = received second octets t.state refl (told_more (Received second octets))
  with_one (Sent second octets) = quietly (Sent second octets) t tt refl (λ e. e)
  with_one (Changed second old new) = changed second old new (fsm_at new) refl (told_more (Changed second old new))

-- ---- all

from : ToldOneMore → (p xs : List ShownRecord) → Holds p (told p) → Holds (p ++ xs) (told (p ++ xs))
from one_more p [] holds = subst (λ (v : List ShownRecord). Holds v (told v)) (sym (append-nil p)) holds
from one_more p (x ∷ xs) holds =
    subst (λ (v : List ShownRecord). Holds v (told v)) (append_assoc p (x ∷ []) xs)
    (from one_more (p ++ x ∷ []) xs
    (subst (λ (t : Told). Holds (p ++ x ∷ []) t) (sym (one_more p x)) (with_one one_more p (told p) refl holds x)))

pub last_is_told : ToldOneMore → LastReceivedIsTold
last_is_told one_more records = (from one_more [] records (record { is = at_idle [] refl; none = λ e. refl })).is
