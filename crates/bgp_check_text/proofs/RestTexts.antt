-- The notes on what is passed over of a direction, and on what is left of its octets.
use Rattle.std.proofs.Common.{◌≡◌, ◌<◌, ◌≤◌, ◌++◌, ℕ, zero, suc, Bool, List, [], arith, codes, refl}
use Rattle.std.proofs.lemmas.Bool.{lt-ltb}
use Rattle.std.specs.Fmt.{decimal}
use Rattle.bgp_check_text.specs.Unshown.{behind_note, end_name, passed_note, short_note}

pub some_passed : (way : List ℕ) (count : ℕ) → 0 < count
    → passed_note way count ≡ codes "  note: ROUTE-REFRESH messages " ++ (way ++ (codes ", not judged: " ++ (decimal count ++ codes "\n")))
unfolding passed_note
some_passed way count some = rw (lt-ltb 0 count some) refl

pub none_passed : (way : List ℕ) (count : ℕ) → count ≤ 0 → passed_note way count ≡ []
unfolding passed_note
none_passed way zero none = refl
none_passed way (suc count) none = absurd (omega (arith, none))

pub some_short : (way : List ℕ) (count : ℕ) → 0 < count
    → short_note way count ≡ codes "  note: octets " ++ (way ++ (codes " of an incomplete last message: " ++ (decimal count ++ codes "\n")))
unfolding short_note
some_short way count some = rw (lt-ltb 0 count some) refl

pub some_behind : (way : List ℕ) (place count : ℕ) (is_refresh : Bool) → 0 < count
    → behind_note way place count is_refresh
    ≡ codes "  note: octets " ++ (way ++ (codes " after the " ++ (end_name is_refresh ++ (codes " at octet " ++ (decimal place ++ (codes ", not read: "
    ++ (decimal count ++ codes "\n")))))))
unfolding behind_note
some_behind way place count is_refresh some = rw (lt-ltb 0 count some) refl

pub none_short : (way : List ℕ) (count : ℕ) → count ≤ 0 → short_note way count ≡ []
unfolding short_note
none_short way zero none = refl
none_short way (suc count) none = absurd (omega (arith, none))

pub none_behind : (way : List ℕ) (place count : ℕ) (is_refresh : Bool) → count ≤ 0 → behind_note way place count is_refresh ≡ []
unfolding behind_note
none_behind way place zero is_refresh none = refl
none_behind way place (suc count) is_refresh none = absurd (omega (arith, none))
