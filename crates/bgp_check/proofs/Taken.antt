-- Records that are taken one after another.
use Rattle.std.proofs.Common.{◌≡◌, ◌+◌, ◌<◌, ◌≤◌, ◌++◌, ℕ, List, [], ◌∷◌, refl, sym, ap, subst, inl, inr, arith, length, get_or, map, take}
use Rattle.bgp_prefix.specs.Shown.{Changed, Received, Sent, ShownRecord}
use Rattle.bgp_check.specs.declared.passing.RefreshOffers.{RefreshOffers}
use Rattle.mrt.specs.Reader.{shown_of}
use Rattle.mrt.specs.declared.record.Record.{Record}
use Rattle.bgp_check.specs.Passed.{Keeps, Left, Takes, nothing_left, one_passed}
use Rattle.bgp_check.proofs.Lists.{many_taken, more_at}

plus_zero : (n : ℕ) → n + 0 ≡ n
plus_zero n = omega arith

pub kept_more : (offers : RefreshOffers) (at : ℕ) (records : List ShownRecord) (x : ShownRecord) (old mid new : Left) → Keeps offers at records old mid
    → Takes offers (at + length records) x mid new → Keeps offers at (records ++ x ∷ []) old new
kept_more offers at [] x old mid new keeps takes =
    (new, subst (λ (l : Left). Takes offers at x l new) keeps (subst (λ (n : ℕ). Takes offers n x mid new) (plus_zero at) takes), refl)
kept_more offers at (first ∷ records) x old mid new keeps takes = (
  keeps.0,
  keeps.1,
  kept_more offers (at + 1) records x keeps.0 mid new keeps.2 (subst (λ (n : ℕ). Takes offers n x mid new) (let same : at + length (first ∷ records) ≡ at + 1 + length records = omega arith in same) takes),
)

-- no more is passed over than is taken
received_by : (x : ShownRecord) (left : Left) → (one_passed x left).received ≤ left.received + 1
received_by (Received t octets) left = omega arith
received_by (Sent t octets) left = omega arith
received_by (Changed t old new) left = omega arith

sent_by : (x : ShownRecord) (left : Left) → (one_passed x left).sent ≤ left.sent + 1
sent_by (Received t octets) left = omega arith
sent_by (Sent t octets) left = omega arith
sent_by (Changed t old new) left = omega arith

pub few_received : (offers : RefreshOffers) (place : ℕ) (x : ShownRecord) (old new : Left) → Takes offers place x old new → new.received ≤ old.received + 1
few_received offers place x old new (inl passed) = subst (λ (l : Left). l.received ≤ old.received + 1) (sym passed.1) (received_by x old)
few_received offers place x old new (inr kept) = let e : new.received ≡ old.received = ap (λ (l : Left). l.received) kept.1 in omega arith

pub few_sent : (offers : RefreshOffers) (place : ℕ) (x : ShownRecord) (old new : Left) → Takes offers place x old new → new.sent ≤ old.sent + 1
few_sent offers place x old new (inl passed) = subst (λ (l : Left). l.sent ≤ old.sent + 1) (sym passed.1) (sent_by x old)
few_sent offers place x old new (inr kept) = let e : new.sent ≡ old.sent = ap (λ (l : Left). l.sent) kept.1 in omega arith

-- of a list that is gone through
pub kept_at : (offers : RefreshOffers) (records : List Record) (i : ℕ) (d : Record) (place : ℕ) (old new : Left) → i < length records → place ≡ i
    → Keeps offers 0 (map shown_of (take i records)) nothing_left old → Takes offers place (shown_of (get_or records i d)) old new
    → Keeps offers 0 (map shown_of (take (i + 1) records)) nothing_left new
kept_at offers records i d place old new within same keeps takes =
    subst (λ (rs : List ShownRecord). Keeps offers 0 rs nothing_left new) (sym (more_at shown_of records i d within))
    (kept_more offers 0 (map shown_of (take i records)) (shown_of (get_or records i d)) nothing_left old new keeps
    (subst (λ (n : ℕ). Takes offers n (shown_of (get_or records i d)) old new)
    (let many = many_taken records i (omega (arith, within)) in omega (arith, same, many)) takes))

pub left_is : (p q : List ℕ) (r s : List ShownRecord) (a b : ℕ) → p ≡ q → r ≡ s
    → ◌≡◌ {A = Left} (record { places = p; records = r; received = a; sent = b }) (record { places = q; records = s; received = a; sent = b })
left_is p q r s a b e f = λ i. record { places = e i; records = f i; received = a; sent = b }
