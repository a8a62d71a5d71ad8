-- The options of an interface, one after another.
use Rattle.std.proofs.Common.{◌≡◌, ◌≤◌, ◌<◌, ◌∙◌, ◌==◌, ℤ, ℕ, zero, suc, List, length, drop, refl, sym, ap, subst, arith, nat_lt, if◌then◌else◌, length-drop, slice_index, None, Some}
use Rattle.std.proofs.lemmas.Bool.{cond_both, ltb-false}
use Rattle.packets.specs.declared.order.Order.{Order}
use Rattle.packets.specs.declared.clock.Clock.{Clock}
use Rattle.packets.specs.Order.{number_in, signed_in}
use Rattle.packets.specs.Pcapng.{Said, Last, Faulty, Resolution, Offset, Skips}
use Rattle.packets.specs.Pcapng.{option_len, resolution_by, offset_by, whole_option, option_by, option_at, clock_by}
use Rattle.packets.specs.Values.{IsWithin}

pub by_last : (most : ℕ) (order : Order) (clock : Clock) (octets : List ℕ) → option_at order octets ≡ Last → clock_by (suc most) order clock octets ≡ Some clock
unfolding clock_by
by_last most order clock octets is = rw (is, clock_by) refl

pub by_faulty : (most : ℕ) (order : Order) (clock : Clock) (octets : List ℕ) → option_at order octets ≡ Faulty → clock_by (suc most) order clock octets ≡ None
unfolding clock_by
by_faulty most order clock octets is = rw (is, clock_by) refl

pub by_resolution : (most : ℕ) (order : Order) (clock : Clock) (octets : List ℕ) (resolution len : ℕ) → option_at order octets ≡ Resolution resolution len
    → clock_by (suc most) order clock octets ≡ clock_by most order (record clock { resolution = resolution }) (drop len octets)
unfolding clock_by
by_resolution most order clock octets resolution len is = rw (is, clock_by) refl

pub by_offset : (most : ℕ) (order : Order) (clock : Clock) (octets : List ℕ) (offset : ℤ) (len : ℕ) → option_at order octets ≡ Offset offset len
    → clock_by (suc most) order clock octets ≡ clock_by most order (record clock { offset = offset }) (drop len octets)
unfolding clock_by
by_offset most order clock octets offset len is = rw (is, clock_by) refl

pub by_skip : (most : ℕ) (order : Order) (clock : Clock) (octets : List ℕ) (len : ℕ) → option_at order octets ≡ Skips len
    → clock_by (suc most) order clock octets ≡ clock_by most order clock (drop len octets)
unfolding clock_by
by_skip most order clock octets len is = rw (is, clock_by) refl

-- ---- an option is there as a whole

least_option : (len : ℕ) → 4 ≤ option_len len
least_option len = omega arith

whole_is_within : (order : Order) (code len : ℕ) (octets : List ℕ) → option_len len ≤ length octets → IsWithin (whole_option order code len octets) octets
unfolding whole_option
whole_is_within order code len octets long =
    cond_both (code == 9) (resolution_by len octets) (if code == 14 then offset_by order len octets else Skips (option_len len)) (λ (s : Said). IsWithin s octets)
    (λ h. cond_both (len == 1) (Resolution (slice_index octets 4) (option_len len)) Faulty (λ (s : Said). IsWithin s octets) (λ h. (least_option len, long)) (λ h. tt {0}))
    (λ h. cond_both (code == 14) (offset_by order len octets) (Skips (option_len len)) (λ (s : Said). IsWithin s octets)
    (λ h. cond_both (len == 8) (Offset (signed_in order (drop 4 octets)) (option_len len)) Faulty (λ (s : Said). IsWithin s octets) (λ h. (least_option len, long)) (λ h. tt {0}))
    (λ h. (least_option len, long)))

by_is_within : (order : Order) (code len : ℕ) (octets : List ℕ) → IsWithin (option_by order code len octets) octets
by_is_within order code len octets =
    cond_both (code == 0) Last (if nat_lt (length octets) (option_len len) then Faulty else whole_option order code len octets) (λ (s : Said). IsWithin s octets)
    (λ h. tt {0})
    (λ h. cond_both (nat_lt (length octets) (option_len len)) Faulty (whole_option order code len octets) (λ (s : Said). IsWithin s octets)
    (λ h. tt {0}) (λ h. whole_is_within order code len octets (ltb-false _ _ h)))

pub option_is_within : (order : Order) (octets : List ℕ) → IsWithin (option_at order octets) octets
unfolding option_at
option_is_within order octets =
    cond_both (length octets == 0) Last (if nat_lt (length octets) 4 then Faulty else option_by order (number_in order 2 octets) (number_in order 2 (drop 2 octets)) octets)
    (λ (s : Said). IsWithin s octets) (λ h. tt {0})
    (λ h. cond_both (nat_lt (length octets) 4) Faulty (option_by order (number_in order 2 octets) (number_in order 2 (drop 2 octets)) octets) (λ (s : Said). IsWithin s octets)
    (λ h. tt {0}) (λ h. by_is_within order (number_in order 2 octets) (number_in order 2 (drop 2 octets)) octets))

-- ---- as many options as there are octets are enough

one_less : (most also : ℕ) (order : Order) (clock : Clock) (octets : List ℕ) (said : Said) → option_at order octets ≡ said
    → ((after : Clock) (len : ℕ) → length (drop len octets) < most → length (drop len octets) < also
    → clock_by most order after (drop len octets) ≡ clock_by also order after (drop len octets))
    → length octets < suc most → length octets < suc also
    → clock_by (suc most) order clock octets ≡ clock_by (suc also) order clock octets
one_less most also order clock octets Last is less below under =
    by_last most order clock octets is ∙ sym (by_last also order clock octets is)
one_less most also order clock octets Faulty is less below under =
    by_faulty most order clock octets is ∙ sym (by_faulty also order clock octets is)
one_less most also order clock octets (Resolution resolution len) is less below under =
    let within = subst (λ (s : Said). IsWithin s octets) is (option_is_within order octets) in
    let left = length-drop len octets in
    by_resolution most order clock octets resolution len is
    ∙ less (record clock { resolution = resolution }) len (omega (arith, within.0, within.1)) (omega (arith, within.0, within.1))
    ∙ sym (by_resolution also order clock octets resolution len is)
one_less most also order clock octets (Offset offset len) is less below under =
    let within = subst (λ (s : Said). IsWithin s octets) is (option_is_within order octets) in
    let left = length-drop len octets in
    by_offset most order clock octets offset len is
    ∙ less (record clock { offset = offset }) len (omega (arith, within.0, within.1)) (omega (arith, within.0, within.1))
    ∙ sym (by_offset also order clock octets offset len is)
one_less most also order clock octets (Skips len) is less below under =
    let within = subst (λ (s : Said). IsWithin s octets) is (option_is_within order octets) in
    let left = length-drop len octets in
    by_skip most order clock octets len is
    ∙ less clock len (omega (arith, within.0, within.1)) (omega (arith, within.0, within.1))
    ∙ sym (by_skip also order clock octets len is)

pub enough : (most also : ℕ) (order : Order) (clock : Clock) (octets : List ℕ) → length octets < most → length octets < also
    → clock_by most order clock octets ≡ clock_by also order clock octets
enough zero also order clock octets below under = absurd (omega arith)
enough (suc most) zero order clock octets below under = absurd (omega arith)
enough (suc most) (suc also) order clock octets below under =
    one_less most also order clock octets (option_at order octets) refl
    (λ after len. enough most also order after (drop len octets)) below under

-- behind an option that was passed over
pub behind : (order : Order) (clock after : Clock) (octets rest : List ℕ) (len : ℕ) → 4 ≤ len → len ≤ length octets → rest ≡ drop len octets
    → clock_by (suc (length octets)) order clock octets ≡ clock_by (length octets) order after (drop len octets)
    → clock_by (suc (length rest)) order after rest ≡ clock_by (suc (length octets)) order clock octets
behind order clock after octets rest len some within is step =
    let left = length-drop len octets in
    ap (λ (o : List ℕ). clock_by (suc (length o)) order after o) is
    ∙ enough (suc (length (drop len octets))) (length octets) order after (drop len octets) (omega arith) (omega arith)
    ∙ sym step
