-- What may stand first in an allowed order of what is left.
use Rattle.std.proofs.Common.{◌≡◌, ◌<◌, ◌≤◌, ◌+◌, ℕ, List, [], ◌∷◌, Option, None, Some, IfSome, ap, subst, sym, inl, inr, arith}
use Rattle.std.proofs.lemmas.Bool.{cases_lt}
use Rattle.std.specs.List.{AllByRecursion}
use Rattle.bgp_recording.specs.declared.message.Message.{Message}
use Rattle.streams.specs.declared.connection.End.{End}
use Rattle.streams.specs.declared.passed.Side.TheVariants.{Local}
use Rattle.bgp_recording.specs.declared.pending.Moment.{Moment}
use Rattle.bgp_recording.specs.Allowed.{Item, Received, Sent, Ended, received_in, sent_in, ends_in, ends_of, MayPrecede, IsAllowed}
use Rattle.bgp_recording.specs.Leads.{own_of, IsBeforeOwn, IsInTime, MayKeep, MayTake}
use Rattle.bgp_recording.specs.First.{IsFirst}
use Rattle.bgp_recording.specs.Told.{IsClock, GoesBy, Rises, IsLast}
use Rattle.bgp_recording.proofs.Lists.{all_weaker, all_always}

-- what holds of each message of both directions and of the end holds of each item
each_item : (P : Item → Type 0) (order : List Item) → AllByRecursion (λ r. P (Received r)) (received_in order) → AllByRecursion (λ s. P (Sent s)) (sent_in order)
    → AllByRecursion (λ e. P (Ended e)) (ends_in order) → AllByRecursion P order
each_item P [] r s e = tt
each_item P (Received m ∷ later) r s e = (r.0, each_item P later r.1 s e)
each_item P (Sent m ∷ later) r s e = (s.0, each_item P later r s.1 e)
each_item P (Ended m ∷ later) r s e = (e.0, each_item P later r s e.1)

of_end : (P : End → Type 0) (end : Option End) → IfSome end P → AllByRecursion P (ends_of end)
of_end P None h = tt
of_end P (Some e) h = (h, tt)

may_precede : (within : ℕ) (item : Item) (received sent : List Message) (end : Option End) (order : List Item) → IsAllowed within received sent end order
    → AllByRecursion (λ r. MayPrecede within item (Received r)) received → AllByRecursion (λ s. MayPrecede within item (Sent s)) sent
    → IfSome end (λ e. MayPrecede within item (Ended e)) → AllByRecursion (MayPrecede within item) order
may_precede within item received sent end order h r s e =
    each_item (MayPrecede within item) order
    (subst (λ (xs : List Message). AllByRecursion (λ r. MayPrecede within item (Received r)) xs) (sym h.of_received) r)
    (subst (λ (xs : List Message). AllByRecursion (λ s. MayPrecede within item (Sent s)) xs) (sym h.of_sent) s)
    (subst (λ (xs : List End). AllByRecursion (λ e. MayPrecede within item (Ended e)) xs) (sym h.of_end) (of_end _ end e))

some_always : {X : Type 0} (P : X → Type 0) → ((x : X) → P x) → (o : Option X) → IfSome o P
some_always P f None = tt
some_always P f (Some x) = f x

pub allowed_received : (within : ℕ) (r : Message) (rs ss : List Message) (end : Option End) (order : List Item) → AllByRecursion (λ s. r.packet < s.packet) ss
    → IfSome end (λ e. e.side ≡ Local → r.packet ≤ e.packet) → IsAllowed within rs ss end order → IsAllowed within (r ∷ rs) ss end (Received r ∷ order)
allowed_received within r rs ss end order before ended h = record {
  of_received = ap (λ ms. r ∷ ms) h.of_received;
  of_sent = h.of_sent;
  of_end = h.of_end;
  each = (may_precede within (Received r) rs ss end order h (all_always _ (λ _. tt) rs) before ended, h.each);
}

pub allowed_sent : (within : ℕ) (s : Message) (rs ss : List Message) (end : Option End) (order : List Item) → AllByRecursion (λ r. s.second ≤ r.second + within) rs
    → IsAllowed within rs ss end order → IsAllowed within rs (s ∷ ss) end (Sent s ∷ order)
allowed_sent within s rs ss end order in_time h = record {
  of_received = h.of_received;
  of_sent = ap (λ ms. s ∷ ms) h.of_sent;
  of_end = h.of_end;
  each = (may_precede within (Sent s) rs ss end order h in_time (all_always _ (λ _. tt) ss) (some_always _ (λ _. tt) end), h.each);
}

pub allowed_end : (within : ℕ) (e : End) (rs : List Message) (order : List Item) → AllByRecursion (λ r. e.second ≤ r.second + within) rs
    → IsAllowed within rs [] None order → IsAllowed within rs [] (Some e) (Ended e ∷ order)
allowed_end within e rs order in_time h = record {
  of_received = h.of_received;
  of_sent = h.of_sent;
  of_end = ap (λ es. e ∷ es) h.of_end;
  each = (may_precede within (Ended e) rs [] None order h in_time tt tt, h.each);
}

-- ---- from the next one to all that is left

pub take_before : (ys : List Message) (own : Option Moment) (m : Message) → IsFirst ys m → MayTake ys own → IfSome own (λ moment. IsBeforeOwn moment m)
take_before [] own m first h = absurd h
take_before (y ∷ ys) own m first h = subst (λ (x : Message). IfSome own (λ moment. IsBeforeOwn moment x)) first h

pub before_all : (r : Message) (ss : List Message) (end : Option End) → IfSome (own_of ss end) (λ own. IsBeforeOwn own r) → Rises ss → AllByRecursion (λ s. r.packet < s.packet) ss
before_all r [] end h rises = tt
before_all r (s ∷ ss) end h rises = (h, all_weaker (λ n. s.packet ≤ n.packet) (λ n. r.packet < n.packet) (λ n k. omega (arith, h, k)) ss rises.0)

pub before_end : (r : Message) (ss : List Message) (end : Option End) → IfSome (own_of ss end) (λ own. IsBeforeOwn own r) → IfSome end (IsLast ss)
    → IfSome end (λ e. e.side ≡ Local → r.packet ≤ e.packet)
before_end r ss None h last = tt
before_end r [] (Some e) h last = λ own. omega (arith, h)
before_end r (s ∷ ss) (Some e) h last = λ own. omega (arith, h, (last own).0)

-- not later by packets, not later by seconds
pub not_later : (clock : ℕ → ℕ) (packet second later at : ℕ) → IsClock clock → second ≡ clock packet → at ≡ clock later → packet ≤ later → second ≤ at
not_later clock packet second later at clocked is also le = omega (arith, clocked packet later le, is, also)

in_time_first : (within : ℕ) (clock : ℕ → ℕ) (moment : Moment) (r : Message) → IsClock clock → moment.second ≡ clock moment.packet → GoesBy clock r
    → IsInTime within moment r → moment.second ≤ r.second + within
in_time_first within clock moment r clocked is by h =
    elim (cases_lt r.packet moment.packet) [ inl b ↦ h b | inr a ↦ omega (arith, not_later clock moment.packet moment.second r.packet r.second clocked is by a) ]

in_time_later : (within : ℕ) (clock : ℕ → ℕ) (second : ℕ) (r : Message) (rs : List Message) → IsClock clock → GoesBy clock r → second ≤ r.second + within
    → AllByRecursion (GoesBy clock) rs → AllByRecursion (λ q. r.packet ≤ q.packet) rs → AllByRecursion (λ q. second ≤ q.second + within) rs
in_time_later within clock second r [] clocked by h all rises = tt
in_time_later within clock second r (q ∷ rs) clocked by h all rises = (
  omega (arith, h, not_later clock r.packet r.second q.packet q.second clocked by all.0 rises.0),
  in_time_later within clock second r rs clocked by h all.1 rises.1,
)

pub in_time_all : (within : ℕ) (clock : ℕ → ℕ) (moment : Moment) (rs : List Message) → IsClock clock → moment.second ≡ clock moment.packet → AllByRecursion (GoesBy clock) rs
    → Rises rs → MayKeep within rs (Some moment) → AllByRecursion (λ r. moment.second ≤ r.second + within) rs
in_time_all within clock moment [] clocked is by rises h = tt
in_time_all within clock moment (r ∷ rs) clocked is by rises h =
    let first = in_time_first within clock moment r clocked is by.0 h in
    (first, in_time_later within clock moment.second r rs clocked by.0 first by.1 rises.0)
