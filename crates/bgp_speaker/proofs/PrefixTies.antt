-- The order of prefixes tells all of them apart.
use Rattle.std.proofs.Common.{◌≡◌, ◌==◌, ℕ, true, refl, ap, subst, eq-eqb, rules}
use Rattle.std.proofs.lemmas.Cmp.{tied_itself}
use Rattle.std.proofs.lemmas.Map.Lookups.{CmpEqualImpliesEq, exact_unsigned}
use Rattle.std.specs.Cmp.{IsTotalOrder, both_ways, Equal-is}
use Rattle.std.specs.Cmp.Rules.{comparing}
use Rattle.std.specs.declared.cmp.Ordering.{Ordering}
use Rattle.std.specs.declared.cmp.Ordering.TheVariants.{Less, Equal, Greater}
use Rattle.std.specs.Ordering.{is_eq, ordering_then, eq_by_cmp}
use Rattle.bgp_prefix.specs.Prefix.{PrefixBits, prefix_length}
use Rattle.bgp_prefix.specs.PrefixOrder.{prefix_cmp, prefix_eq, family_rank, prefix_number}
use Rattle.bgp_prefix.proofs.RealEquality.{equal_prefixes}

pub prefixes_total : IsTotalOrder prefix_cmp
prefixes_total = search (comparing, rules)

then_equal : (a b : Ordering) → ordering_then a b ≡ Equal → (a ≡ Equal) × (b ≡ Equal)
then_equal Less b e = absurd cc
then_equal Equal b e = (refl, e)
then_equal Greater b e = absurd cc

exact_prefixes : CmpEqualImpliesEq prefix_cmp
exact_prefixes p q e =
    let (ranks, others) = then_equal _ _ e in
    let (numbers, lengths) = then_equal _ _ others in
    let rank : family_rank p ≡ family_rank q = exact_unsigned _ _ ranks in
    let number : prefix_number p ≡ prefix_number q = exact_unsigned _ _ numbers in
    let bits : prefix_length p ≡ prefix_length q = exact_unsigned _ _ lengths in
    equal_prefixes p q (rw (eq-eqb _ _ rank, eq-eqb _ _ number, eq-eqb _ _ bits) refl)

number_itself : (n : ℕ) → (n == n) ≡ true
number_itself n = eq-eqb n n refl

same_itself : (p : PrefixBits) → prefix_eq p p ≡ true
same_itself p = rw (number_itself (family_rank p), number_itself (prefix_number p), number_itself (prefix_length p)) refl

-- equality and order tell the same
pub same_tie : (p q : PrefixBits) → prefix_eq p q ≡ eq_by_cmp prefix_cmp p q
same_tie p q = both_ways _ _
    (λ e. subst (λ z. eq_by_cmp prefix_cmp p z ≡ true) (equal_prefixes p q e) (ap is_eq (tied_itself prefixes_total p)))
    (λ e. subst (λ z. prefix_eq p z ≡ true) (exact_prefixes p q ((Equal-is _).0 e)) (same_itself p))
