-- The order of destinations tells all of them apart.
use Rattle.std.proofs.Common.{◌≡◌, ◌==◌, ◌||◌, ◌++◌, not, List, [], ◌∷◌, filter, ℕ, Bool, true, false, Option, None, Some, refl, sym, ap, ◌∙◌, subst, eq-eqb, eqb-true, rules}
use Rattle.std.proofs.lemmas.Bool.{and_parts}
use Rattle.std.proofs.lemmas.Cmp.{tied_itself}
use Rattle.std.proofs.lemmas.Map.Lookups.{CmpEqualImpliesEq, exact_unsigned}
use Rattle.std.specs.Cmp.{IsTotalOrder, both_ways, Equal-is, nat_cmp_total, on_total, then_total}
use Rattle.std.specs.Cmp.Rules.{comparing}
use Rattle.std.specs.declared.cmp.Ordering.{Ordering}
use Rattle.std.specs.declared.cmp.Ordering.TheVariants.{Less, Equal, Greater}
use Rattle.std.specs.Ordering.{is_eq, ordering_then, eq_by_cmp}
use Rattle.std.specs.Set.{is_member}
use Rattle.std.proofs.lemmas.List.Folds.{list_any-append}
use Rattle.bgp_prefix.specs.Prefix.{PrefixBits, prefix_length}
use Rattle.bgp_prefix.specs.PrefixOrder.{prefix_cmp, prefix_eq, family_rank, prefix_number}
use Rattle.bgp_prefix.proofs.RealEquality.{equal_prefixes}
use Rattle.bgp_update.specs.declared.destination.Destination.{Destination}
use Rattle.bgp_rib.specs.DestinationOrder.{destination_cmp, destination_eq, id_count, id_number}
use Rattle.bgp_rib.specs.Routes.{entries_without}

prefixes_total : IsTotalOrder prefix_cmp
prefixes_total = search (comparing, rules)

pub destinations_total : IsTotalOrder destination_cmp
destinations_total =
    then_total (on_total (λ d. family_rank d.prefix) nat_cmp_total)
    (then_total (on_total (λ d. id_count d.path) nat_cmp_total)
    (then_total (on_total (λ d. d.prefix) prefixes_total) (on_total (λ d. id_number d.path) nat_cmp_total)))

then_equal : (a b : Ordering) → ordering_then a b ≡ Equal → (a ≡ Equal) × (b ≡ Equal)
then_equal Less b e = absurd cc
then_equal Equal b e = (refl, e)
then_equal Greater b e = absurd cc

exact_prefixes : CmpEqualImpliesEq prefix_cmp
exact_prefixes p q e =
    let (ranks, others) = then_equal _ _ e in
    let (numbers, lengths) = then_equal _ _ others in
    let rank : family_rank p ≡ family_rank q = exact_unsigned _ _ ranks in
    let number : prefix_number p ≡ prefix_number q = exact_unsigned _ _ numbers in
    let bits : prefix_length p ≡ prefix_length q = exact_unsigned _ _ lengths in
    equal_prefixes p q (rw (eq-eqb _ _ rank, eq-eqb _ _ number, eq-eqb _ _ bits) refl)

-- how many identifiers there are, and the number of one, tell them
same_path : (a b : Option ℕ) → id_count a ≡ id_count b → id_number a ≡ id_number b → a ≡ b
same_path None None count number = refl
same_path None (Some j) count number = absurd cc
same_path (Some i) None count number = absurd cc
same_path (Some i) (Some j) count number = λ k. Some (number k)

pub exact_destinations : CmpEqualImpliesEq destination_cmp
exact_destinations a b e =
    let (ranks, kinds) = then_equal _ _ e in
    let (counts, others) = then_equal _ _ kinds in
    let (prefixes, numbers) = then_equal _ _ others in
    let prefix = exact_prefixes a.prefix b.prefix prefixes in
    let path = same_path a.path b.path (exact_unsigned _ _ counts) (exact_unsigned _ _ numbers) in
    λ i. record { prefix = prefix i; path = path i }

number_itself : (n : ℕ) → (n == n) ≡ true
number_itself n = eq-eqb n n refl

prefix_itself : (p : PrefixBits) → prefix_eq p p ≡ true
prefix_itself p = rw (number_itself (family_rank p), number_itself (prefix_number p), number_itself (prefix_length p)) refl

pub same_itself : (d : Destination) → destination_eq d d ≡ true
same_itself d = rw (prefix_itself d.prefix, number_itself (id_count d.path), number_itself (id_number d.path)) refl

-- equality is real
pub equal_destinations : (a b : Destination) → destination_eq a b ≡ true → a ≡ b
equal_destinations a b e =
    let (prefixes, others) = and_parts _ _ e in
    let (counts, numbers) = and_parts _ _ others in
    let prefix = equal_prefixes a.prefix b.prefix prefixes in
    let path = same_path a.path b.path (eqb-true _ _ counts) (eqb-true _ _ numbers) in
    λ i. record { prefix = prefix i; path = path i }

-- equality and order tell the same
pub same_tie : (p q : Destination) → destination_eq p q ≡ eq_by_cmp destination_cmp p q
same_tie p q = both_ways _ _
    (λ e. subst (λ z. eq_by_cmp destination_cmp p z ≡ true) (equal_destinations p q e) (ap is_eq (tied_itself destinations_total p)))
    (λ e. subst (λ z. destination_eq p z ≡ true) (exact_destinations p q ((Equal-is _).0 e)) (same_itself p))

or_false : (b : Bool) → (b || false) ≡ b
or_false true = refl
or_false false = refl

-- the entries at other destinations than one
pub without_one : {V : Type 0} (k : Destination) (es : List (Destination × V))
    → filter (λ e. not (is_eq (destination_cmp e.0 k))) es ≡ entries_without (k ∷ []) es
without_one {V} k es =
    let tie : (e : Destination × V) → is_eq (destination_cmp e.0 k) ≡ (destination_eq e.0 k || false) =
    λ e. sym (same_tie e.0 k) ∙ sym (or_false (destination_eq e.0 k)) in
    λ i. filter (λ e. not (tie e i)) es

-- one destination more
more_by : {V : Type 0} (ps : List Destination) (p : Destination) (e : Destination × V) (es : List (Destination × V)) (a b : Bool)
    → is_member destination_eq ps e.0 ≡ a → destination_eq e.0 p ≡ b
    → entries_without (p ∷ []) (entries_without ps es) ≡ entries_without (ps ++ p ∷ []) es
    → entries_without (p ∷ []) (entries_without ps (e ∷ es)) ≡ entries_without (ps ++ p ∷ []) (e ∷ es)
more_by ps p e es true b m t more = rw (list_any-append (destination_eq e.0) ps (p ∷ []), m, more) refl
more_by ps p e es false true m t more = rw (list_any-append (destination_eq e.0) ps (p ∷ []), m, t, more) refl
more_by ps p e es false false m t more = rw (list_any-append (destination_eq e.0) ps (p ∷ []), m, t, more) refl

pub without_more : {V : Type 0} (ps : List Destination) (p : Destination) (es : List (Destination × V))
    → entries_without (p ∷ []) (entries_without ps es) ≡ entries_without (ps ++ p ∷ []) es
without_more ps p [] = refl
without_more ps p (e ∷ es) =
    more_by ps p e es (is_member destination_eq ps e.0) (destination_eq e.0 p) refl refl (without_more ps p es)

pub without_none : {V : Type 0} (es : List (Destination × V)) → entries_without [] es ≡ es
without_none [] = refl
without_none (e ∷ es) = ap (λ l. e ∷ l) (without_none es)
