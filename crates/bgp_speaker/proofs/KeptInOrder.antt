-- The kept prefixes ascend.
use Rattle.std.proofs.Common.{◌≡◌, ℕ, Bool, true, false, List, [], ◌∷◌, refl, sym, subst}
use Rattle.std.specs.declared.cmp.Ordering.{Ordering}
use Rattle.std.specs.declared.cmp.Ordering.TheVariants.{Less, Equal, Greater}
use Rattle.std.specs.BTreeMap.{is_at}
use Rattle.std.specs.BTreeSet.{insert_key}
use Rattle.std.specs.Cmp.{IsTotalOrder}
use Rattle.std.specs.List.{AllByRecursion}
use Rattle.std.specs.List.Sorted.{IsStrictlySortedBy}
use Rattle.std.specs.Set.{remove_key}
use Rattle.bgp_prefix.specs.Prefix.{PrefixBits}
use Rattle.bgp_prefix.specs.Shown.{ShownRecord}
use Rattle.bgp_prefix.specs.PrefixOrder.{prefix_cmp}
use Rattle.bgp_speaker.proofs.PrefixTies.{prefixes_total}
use Rattle.bgp_speaker.specs.Choosing.{Drives, kept_after}
use Rattle.bgp_speaker.specs.Core.{CoreState, InputValue, Start, Passive, Stop, Connected, Failed, Bytes, Tick, Announce, Withdraw}
use Rattle.bgp_speaker.specs.Driven.{EachKeptListAscends}

module _ {K : Type 0} {R : K → K → Ordering} (o : IsTotalOrder R) where
  above : (k j : K) (ks : List K) → R k j ≡ Less → AllByRecursion (λ y. R j y ≡ Less) ks → AllByRecursion (λ y. R k y ≡ Less) ks
  above k j [] e h = tt
  above k j (x ∷ ks) e h = (o.trans k j x e h.0, above k j ks e h.1)

  -- a key that is put keeps the order
  below_put_by : (j k x : K) (ks : List K) (r : Ordering) → R k x ≡ r → R j k ≡ Less → R j x ≡ Less → AllByRecursion (λ y. R j y ≡ Less) ks
      → AllByRecursion (λ y. R j y ≡ Less) (insert_key R ks k) → AllByRecursion (λ y. R j y ≡ Less) (insert_key R (x ∷ ks) k)
  below_put_by j k x ks Less t a b h more = rw t (a, (b, h))
  below_put_by j k x ks Equal t a b h more = rw t (b, h)
  below_put_by j k x ks Greater t a b h more = rw t (b, more)

  below_put : (j k : K) (ks : List K) → R j k ≡ Less → AllByRecursion (λ y. R j y ≡ Less) ks → AllByRecursion (λ y. R j y ≡ Less) (insert_key R ks k)
  below_put j k [] a h = (a, tt)
  below_put j k (x ∷ ks) a h = below_put_by j k x ks (R k x) refl a h.0 h.1 (below_put j k ks a h.1)

  put_ordered_by : (k x : K) (ks : List K) (r : Ordering) → R k x ≡ r → AllByRecursion (λ y. R x y ≡ Less) ks → IsStrictlySortedBy R ks
      → IsStrictlySortedBy R (insert_key R ks k) → IsStrictlySortedBy R (insert_key R (x ∷ ks) k)
  unfolding IsStrictlySortedBy
  put_ordered_by k x ks Less t h s more = rw t ((t, above k x ks t h), (h, s))
  put_ordered_by k x ks Equal t h s more = rw t (h, s)
  put_ordered_by k x ks Greater t h s more = rw t (below_put x k ks (rw (o.antisymm x k, t) refl) h, more)

  put_ordered : (k : K) (ks : List K) → IsStrictlySortedBy R ks → IsStrictlySortedBy R (insert_key R ks k)
  unfolding IsStrictlySortedBy
  put_ordered k [] s = (tt, tt)
  put_ordered k (x ∷ ks) s = put_ordered_by k x ks (R k x) refl s.0 s.1 (put_ordered k ks s.1)

  -- and so does one that is removed
  below_removed_by : (j x : K) (test : K → Bool) (ks : List K) (b : Bool) → test x ≡ b → R j x ≡ Less → AllByRecursion (λ y. R j y ≡ Less) ks
      → AllByRecursion (λ y. R j y ≡ Less) (remove_key test ks) → AllByRecursion (λ y. R j y ≡ Less) (remove_key test (x ∷ ks))
  below_removed_by j x test ks true t a h more = rw t h
  below_removed_by j x test ks false t a h more = rw t (a, more)

  below_removed : (j : K) (test : K → Bool) (ks : List K) → AllByRecursion (λ y. R j y ≡ Less) ks → AllByRecursion (λ y. R j y ≡ Less) (remove_key test ks)
  below_removed j test [] h = tt
  below_removed j test (x ∷ ks) h = below_removed_by j x test ks (test x) refl h.0 h.1 (below_removed j test ks h.1)

  removed_ordered_by : (x : K) (test : K → Bool) (ks : List K) (b : Bool) → test x ≡ b → AllByRecursion (λ y. R x y ≡ Less) (remove_key test ks) → IsStrictlySortedBy R ks
      → IsStrictlySortedBy R (remove_key test ks) → IsStrictlySortedBy R (remove_key test (x ∷ ks))
  unfolding IsStrictlySortedBy
  removed_ordered_by x test ks true t h s more = rw t s
  removed_ordered_by x test ks false t h s more = rw t (h, more)

  removed_ordered : (test : K → Bool) (ks : List K) → IsStrictlySortedBy R ks → IsStrictlySortedBy R (remove_key test ks)
  unfolding IsStrictlySortedBy
  removed_ordered test [] s = s
  removed_ordered test (x ∷ ks) s = removed_ordered_by x test ks (test x) refl (below_removed x test ks s.0) s.1 (removed_ordered test ks s.1)

after_input : (input : InputValue) (kept : List PrefixBits) → IsStrictlySortedBy prefix_cmp kept → IsStrictlySortedBy prefix_cmp (kept_after input kept)
after_input (Announce prefix) kept s = put_ordered prefixes_total prefix kept s
after_input (Withdraw prefix) kept s = removed_ordered prefixes_total (is_at (prefix_cmp prefix)) kept s
after_input (Bytes octets) kept s = s
after_input Start kept s = s
after_input Passive kept s = s
after_input Stop kept s = s
after_input Connected kept s = s
after_input Failed kept s = s
after_input Tick kept s = s

after_all : (s e : CoreState) (inputs : List (ℕ × InputValue)) (records : List ShownRecord) → Drives s inputs records e
    → IsStrictlySortedBy prefix_cmp s.kept → IsStrictlySortedBy prefix_cmp e.kept
after_all s e [] records x sorted = subst (λ (v : CoreState). IsStrictlySortedBy prefix_cmp v.kept) (sym x.1) sorted
after_all s e (input ∷ inputs) records x sorted =
    after_all x.1 e inputs x.2 x.4
    (subst (λ (v : CoreState). IsStrictlySortedBy prefix_cmp v.kept) (sym x.3.3) (after_input input.1 s.kept sorted))

none_ascend : IsStrictlySortedBy prefix_cmp []
unfolding IsStrictlySortedBy
none_ascend = tt

pub kept_ascend : EachKeptListAscends
kept_ascend speaker e inputs records x = after_all _ e inputs records x none_ascend
