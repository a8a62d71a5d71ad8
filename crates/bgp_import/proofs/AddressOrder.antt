-- Two addresses: the lesser first, and their order tells all of them apart.
use Rattle.std.proofs.Common.{◌≡◌, ◌≢◌, ◌∙◌, ◌⊎◌, Bool, true, false, refl, sym, ap, subst, inl, inr, if◌then◌else◌}
use Rattle.std.proofs.lemmas.Cmp.{tied_itself}
use Rattle.std.proofs.lemmas.Map.Lookups.{CmpEqualImpliesEq, exact_unsigned}
use Rattle.std.specs.Cmp.{IsTotalOrder}
use Rattle.std.specs.declared.cmp.Ordering.{Ordering}
use Rattle.std.specs.declared.cmp.Ordering.TheVariants.{Less, Equal, Greater}
use Rattle.std.specs.Ordering.{is_eq, is_gt, ordering_reverse, ordering_then}
use Rattle.bgp_prefix.specs.contracts.address.AddressOrd.TheImpl as order
use Rattle.bgp_prefix.specs.contracts.address.AddressOrd.TheImpl.Laws as order_laws
use Rattle.segments.specs.contracts.found.AddressesOrd.TheImpl.Laws as pairs_laws
use Rattle.bgp_prefix.specs.declared.address.Address.{Address}
use Rattle.bgp_prefix.specs.declared.address.Address.TheVariants.{V4, V6}
use Rattle.segments.specs.contracts.found.AddressesOrd.TheImpl as pairs
use Rattle.segments.specs.declared.found.Addresses.{Addresses}
use Rattle.bgp_import.specs.Pairs.{AreOrdered, ordered}

abbrev cmp : Address → Address → Ordering
cmp = order.ghosts.cmp

then_equal : (a b : Ordering) → ordering_then a b ≡ Equal → (a ≡ Equal) × (b ≡ Equal)
then_equal Less b e = absurd cc
then_equal Equal b e = (refl, e)
then_equal Greater b e = absurd cc

exact_address : CmpEqualImpliesEq cmp
exact_address (V4 a) (V4 b) e = ap V4 (exact_unsigned a b e)
exact_address (V4 a) (V6 b) e = absurd cc
exact_address (V6 a) (V4 b) e = absurd cc
exact_address (V6 a) (V6 b) e = ap V6 (exact_unsigned a b e)

pair : (a b : Addresses) → a.from ≡ b.from → a.to ≡ b.to → a ≡ b
pair a b e f = λ i. record { from = e i; to = f i }

pub exact_pairs : CmpEqualImpliesEq pairs.ghosts.cmp
exact_pairs a b e = let both = then_equal (cmp a.from b.from) (cmp a.to b.to) e in pair a b (exact_address a.from b.from both.0) (exact_address a.to b.to both.1)

total : IsTotalOrder cmp
total = order_laws.total-law

pub pairs_total : IsTotalOrder pairs.ghosts.cmp
pairs_total = pairs_laws.total-law

-- ---- the lesser first

impossible : false ≡ true → ⊥
impossible e = cc

reversed : (o p : Ordering) → p ≡ ordering_reverse o → is_gt o ≡ true → is_gt p ≡ false
reversed Less p e g = absurd cc
reversed Equal p e g = absurd cc
reversed Greater p e g = ap is_gt e

both_ways : (o p : Ordering) → p ≡ ordering_reverse o → is_gt o ≡ false → is_gt p ≡ false → o ≡ Equal
both_ways Less p e g h = absurd (impossible (sym h ∙ ap is_gt e))
both_ways Equal p e g h = refl
both_ways Greater p e g h = absurd cc

by_greater : (a : Addresses) (g : Bool) → is_gt (cmp a.from a.to) ≡ g → AreOrdered (if g then record { from = a.to; to = a.from } else a)
by_greater a false e = e
by_greater a true e = reversed (cmp a.from a.to) (cmp a.to a.from) (total.antisymm a.to a.from) e

pub ordered_is : (a : Addresses) → AreOrdered (ordered a)
ordered_is a = by_greater a (is_gt (cmp a.from a.to)) refl

-- two that stand in order and are these one way or the other are these in order
same_way : (q a : Addresses) → AreOrdered q → a.from ≡ q.from → a.to ≡ q.to → q ≡ ordered a
same_way q a in_order e f =
    let same : q ≡ a = pair q a (sym e) (sym f) in
    let not_greater : is_gt (cmp a.from a.to) ≡ false = subst (λ (x : Addresses). is_gt (cmp x.from x.to) ≡ false) same in_order in
    same ∙ sym (ap (λ (g : Bool). if g then record { from = a.to; to = a.from } else a) not_greater)

other_way_by : (q a : Addresses) (g : Bool) → is_gt (cmp a.from a.to) ≡ g → AreOrdered q → a.from ≡ q.to → a.to ≡ q.from
    → q ≡ (if g then record { from = a.to; to = a.from } else a)
other_way_by q a true is in_order e f = pair q (record { from = a.to; to = a.from }) (sym f) (sym e)
other_way_by q a false is in_order e f =
    let its : is_gt (cmp q.to q.from) ≡ false = subst (λ (x : Address). is_gt (cmp x q.from) ≡ false) e (subst (λ (x : Address). is_gt (cmp a.from x) ≡ false) f is) in
    let one : q.from ≡ q.to = exact_address q.from q.to (both_ways (cmp q.from q.to) (cmp q.to q.from) (total.antisymm q.to q.from) in_order its) in
    pair q a (one ∙ sym e) (sym one ∙ sym f)

other_way : (q a : Addresses) → AreOrdered q → a.from ≡ q.to → a.to ≡ q.from → q ≡ ordered a
other_way q a in_order e f = other_way_by q a (is_gt (cmp a.from a.to)) refl in_order e f

pub one_way : (q a : Addresses) → AreOrdered q → ((a.from ≡ q.from) × (a.to ≡ q.to)) ⊎ ((a.from ≡ q.to) × (a.to ≡ q.from)) → q ≡ ordered a
one_way q a in_order (inl same) = same_way q a in_order same.0 same.1
one_way q a in_order (inr other) = other_way q a in_order other.0 other.1

-- ---- keys

impossible_tie : (o : Ordering) → o ≡ Equal → is_eq o ≡ false → ⊥
impossible_tie Less e f = cc
impossible_tie Equal e f = cc
impossible_tie Greater e f = cc

-- a key that isn't tied is another
pub apart : (a b : Addresses) → is_eq (pairs.ghosts.cmp a b) ≡ false → a ≢ b
apart a b f same = impossible_tie (pairs.ghosts.cmp a b) (subst (λ (x : Addresses). pairs.ghosts.cmp a x ≡ Equal) same (tied_itself pairs_total a)) f

equal_is : (o : Ordering) → is_eq o ≡ true → o ≡ Equal
equal_is Less e = absurd cc
equal_is Equal e = refl
equal_is Greater e = absurd cc

pub tied : (a b : Addresses) → is_eq (pairs.ghosts.cmp a b) ≡ true → a ≡ b
tied a b e = exact_pairs a b (equal_is (pairs.ghosts.cmp a b) e)

pub tied_to_itself : (a : Addresses) → is_eq (pairs.ghosts.cmp a a) ≡ true
tied_to_itself a = ap is_eq (tied_itself pairs_total a)
