-- A frame of at most 4096 octets is one whether longer messages may be or not.
use Rattle.std.proofs.Common.{◌<◌, ◌≤◌, ◌==◌, ◌||◌, Bool, true, false, ℕ, List, length, inl, inr, subst, if◌then◌else◌, arith}
use Rattle.bgp_wire.specs.declared.header.Limit.{Limit}
use Rattle.bgp_wire.specs.declared.header.Limit.TheVariants.{Plain, Extended}
use Rattle.bgp_wire.specs.Framing.{IsFrame}
use Rattle.bgp_wire.specs.Header.{HasHeaderFault, IsBadLength, greatest_length, header_of, length_of, type_of}

long_anyway : (long : Bool) (count : ℕ) → (if long then 65535 else 4096) < count → 4096 < count
long_anyway true count more = omega (arith, more)
long_anyway false count more = more

-- a Length that is too long for an extended message is too long for another
too_long : (limit : Limit) (kind count : ℕ) → greatest_length limit kind < count → 4096 < count
too_long Plain kind count more = more
too_long Extended kind count more = long_anyway ((kind == 2) || (kind == 3)) count more

bad_anyway : (limit : Limit) (kind count : ℕ) → IsBadLength limit kind count → IsBadLength Plain kind count
bad_anyway limit kind count bad = elim bad [
  | inl few ↦ inl few
  | inr other ↦ elim other [ inl more ↦ inr (inl (too_long limit kind count more)) | inr alive ↦ inr (inr alive) ]
]

fault_anyway : (limit : Limit) (header : List ℕ) (subcode : ℕ) (detail : List ℕ) → HasHeaderFault limit header subcode detail
    → HasHeaderFault Plain header subcode detail
fault_anyway limit header subcode detail fault = elim fault [
  | inl marker ↦ inl marker
  | inr other ↦ elim other [
    | inl long ↦ inr (inl (long.0, bad_anyway limit (type_of header) (length_of header) long.1, long.2))
    | inr kind ↦ inr (inr kind)
  ]
]

pub plain_is_frame : (limit : Limit) (octets : List ℕ) → IsFrame Plain octets → IsFrame limit octets
plain_is_frame limit octets is = record {
  header = is.header;
  sound = λ subcode detail fault. is.sound subcode detail (fault_anyway limit (header_of octets) subcode detail fault);
  whole = is.whole;
}

-- ---- the other way, where it is no longer

bad_by_any : (limit : Limit) (kind count : ℕ) → count ≤ 4096 → IsBadLength Plain kind count → IsBadLength limit kind count
bad_by_any limit kind count within bad = elim bad [
  | inl few ↦ inl few
  | inr other ↦ elim other [ inl more ↦ absurd (omega (arith, within, more)) | inr alive ↦ inr (inr alive) ]
]

fault_by_any : (limit : Limit) (header : List ℕ) (subcode : ℕ) (detail : List ℕ) → length_of header ≤ 4096 → HasHeaderFault Plain header subcode detail
    → HasHeaderFault limit header subcode detail
fault_by_any limit header subcode detail within fault = elim fault [
  | inl marker ↦ inl marker
  | inr other ↦ elim other [
    | inl long ↦ inr (inl (long.0, bad_by_any limit (type_of header) (length_of header) within long.1, long.2))
    | inr kind ↦ inr (inr kind)
  ]
]

pub short_is_plain : (limit : Limit) (octets : List ℕ) → length octets ≤ 4096 → IsFrame limit octets → IsFrame Plain octets
short_is_plain limit octets short is =
    let within : length_of (header_of octets) ≤ 4096 = subst (λ (n : ℕ). n ≤ 4096) is.whole short in
    record {
      header = is.header;
      sound = λ subcode detail fault. is.sound subcode detail (fault_by_any limit (header_of octets) subcode detail within fault);
      whole = is.whole;
    }
