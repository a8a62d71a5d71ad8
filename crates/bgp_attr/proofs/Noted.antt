-- A set of the numbers of large communities says which of these there are.
use Rattle.std.proofs.Common.{◌≡◌, ℕ, Bool, true, false, not, ◌&&◌, ◌||◌, ◌==◌, cond, if◌then◌else◌, List, [], ◌∷◌, ◌++◌, refl, sym, ap, ◌∙◌, arith}
use Rattle.std.specs.declared.cmp.Ordering.{Ordering}
use Rattle.std.specs.declared.cmp.Ordering.TheVariants.{Less, Equal, Greater}
use Rattle.std.specs.Ordering.{nat_cmp, ordering_then, is_eq}
use Rattle.std.specs.BTreeSet.{BTreeSet, contains}
use Rattle.std.specs.Bool.{OnFalse}
use Rattle.std.specs.BTreeMap.{is_at}
use Rattle.std.proofs.lemmas.List.Folds.{list_any-append}
use Rattle.bgp_path.specs.declared.large_community.LargeCommunity.{LargeCommunity}
use Rattle.bgp_path.specs.LargeCommunities.{has_large_community, same_large_community}
use Rattle.bgp_attr.specs.Noted.{AreNoted, numbers_cmp, numbers_of}

then_is_eq : (a b : Ordering) → is_eq (ordering_then a b) ≡ (is_eq a && is_eq b)
then_is_eq Less b = refl
then_is_eq Equal b = refl
then_is_eq Greater b = refl

nat_is_eq : (x y : ℕ) → is_eq (nat_cmp x y) ≡ (x == y)
nat_is_eq x y = grind (arith)

grouped : (a b c : Bool) → ((a && b) && c) ≡ (a && (b && c))
grouped true b c = refl
grouped false b c = refl

-- two have the same place if they are equal
pub same_place : (c d : LargeCommunity) → is_at (numbers_cmp (numbers_of c)) (numbers_of d) ≡ same_large_community c d
same_place c d =
    then_is_eq (ordering_then (nat_cmp c.global_administrator d.global_administrator) (nat_cmp c.local_data_part_1 d.local_data_part_1)) (nat_cmp c.local_data_part_2 d.local_data_part_2)
    ∙ rw (
      then_is_eq (nat_cmp c.global_administrator d.global_administrator) (nat_cmp c.local_data_part_1 d.local_data_part_1),
      nat_is_eq c.global_administrator d.global_administrator,
      nat_is_eq c.local_data_part_1 d.local_data_part_1,
      nat_is_eq c.local_data_part_2 d.local_data_part_2,
    )
    (grouped (c.global_administrator == d.global_administrator) (c.local_data_part_1 == d.local_data_part_1) (c.local_data_part_2 == d.local_data_part_2))

pub none_noted : (noted : BTreeSet (ℕ × ℕ × ℕ)) → noted.keys ≡ [] → AreNoted noted []
none_noted noted empty c = ap (λ keys. contains numbers_cmp (record { keys = keys }) (numbers_of c)) empty

either : (old same : Bool) → cond same true old ≡ (old || (same || false))
either true true = refl
either true false = refl
either false true = refl
either false false = refl

-- one more is noted
pub one_noted : (old new : BTreeSet (ℕ × ℕ × ℕ)) (c : LargeCommunity) (kept : List LargeCommunity) → AreNoted old kept
    → ((q : ℕ × ℕ × ℕ) → contains numbers_cmp new q ≡ cond (is_at (numbers_cmp (numbers_of c)) q) true (contains numbers_cmp old q))
    → AreNoted new (kept ++ c ∷ [])
one_noted old new c kept noted updates d =
    updates (numbers_of d)
    ∙ rw (same_place c d, noted d) (either (has_large_community kept d) (same_large_community c d)
    ∙ sym (list_any-append (λ x. same_large_community x d) kept (c ∷ [])))

-- one that was noted is noted again
pub none_more : (old new : BTreeSet (ℕ × ℕ × ℕ)) (kept : List LargeCommunity) → AreNoted old kept → new.keys ≡ old.keys → AreNoted new kept
none_more old new kept noted same d = ap (λ keys. contains numbers_cmp (record { keys = keys }) (numbers_of d)) same ∙ noted d

-- what is noted behind one that is new, or isn't
pub noted_next : (old new : BTreeSet (ℕ × ℕ × ℕ)) (c : LargeCommunity) (kept : List LargeCommunity) (is_new : Bool) → AreNoted old kept
    → ((q : ℕ × ℕ × ℕ) → contains numbers_cmp new q ≡ cond (is_at (numbers_cmp (numbers_of c)) q) true (contains numbers_cmp old q))
    → OnFalse is_new (new.keys ≡ old.keys)
    → AreNoted new (if is_new then kept ++ c ∷ [] else kept)
noted_next old new c kept true noted updates same = one_noted old new c kept noted updates
noted_next old new c kept false noted updates same = none_more old new kept noted same

-- ---- by what a note answers

not_true : (b : Bool) → not b ≡ true → b ≡ false
not_true true e = absurd cc
not_true false e = refl

not_false : (b : Bool) → not b ≡ false → b ≡ true
not_false true e = refl
not_false false e = absurd cc

pub is_new : (kept : List LargeCommunity) (c : LargeCommunity) (new : Bool) → new ≡ not (has_large_community kept c) → new ≡ true → has_large_community kept c ≡ false
is_new kept c new says is = not_true (has_large_community kept c) (sym says ∙ is)

pub is_old : (kept : List LargeCommunity) (c : LargeCommunity) (new : Bool) → new ≡ not (has_large_community kept c) → new ≡ false → has_large_community kept c ≡ true
is_old kept c new says is = not_false (has_large_community kept c) (sym says ∙ is)

pub noted_new : (noted : BTreeSet (ℕ × ℕ × ℕ)) (c : LargeCommunity) (kept pushed : List LargeCommunity) (new : Bool) → AreNoted noted (if new then kept ++ c ∷ [] else kept)
    → new ≡ true → pushed ≡ kept ++ c ∷ [] → AreNoted noted pushed
noted_new noted c kept pushed new after is push d =
    after d ∙ ap (λ (b : Bool). has_large_community (if b then kept ++ c ∷ [] else kept) d) is
    ∙ ap (λ (t : List LargeCommunity). has_large_community t d) (sym push)

pub noted_old : (noted : BTreeSet (ℕ × ℕ × ℕ)) (c : LargeCommunity) (kept : List LargeCommunity) (new : Bool) → AreNoted noted (if new then kept ++ c ∷ [] else kept)
    → new ≡ false → AreNoted noted kept
noted_old noted c kept new after is d = after d ∙ ap (λ (b : Bool). has_large_community (if b then kept ++ c ∷ [] else kept) d) is
