-- What is found makes an UPDATE clean exactly where each thing that is found is fine by itself.
use Rattle.std.proofs.Common.{◌≡◌, ◌≢◌, ◌⊎◌, ◌==◌, ℕ, Bool, true, false, IsTrue, [], Option, None, Some, is_some, refl, sym, subst, ◌∙◌, inl, inr}
use Rattle.std.specs.Prelude.{IsNone}
use Rattle.std.proofs.lemmas.Bool.{cases_Bool, eqb-true, eqb-false}
use Rattle.bgp_prefix.specs.declared.family.Family.{Family}
use Rattle.bgp_prefix.specs.declared.family.Family.TheVariants.{V4}
use Rattle.bgp_open.specs.Families.{contains}
use Rattle.bgp_open.specs.declared.link.Link.{Link}
use Rattle.bgp_attr.specs.declared.field.Tail.{Tail}
use Rattle.bgp_attr.specs.declared.field.Tail.TheVariants.{ShortHeader, Overrun}
use Rattle.bgp_update.specs.Clean.{IsCleanBy}
use Rattle.bgp_update.specs.Disabled.{IsCertain, IsOptional}
use Rattle.bgp_update.specs.Found.{Found, MpFound}
use Rattle.bgp_update.specs.Mp.{Mp, Absent, Cut, Other, Unused, Broken, Sound}
use Rattle.bgp_update.specs.MpFaults.{IsCut, HasBitsInConflict, MayReset}
use Rattle.bgp_update.specs.ResetFaults.{IsFixedSubcode, IsResetSubcode, IsMereSubcode, HasMpOverrun}
use Rattle.bgp_update.specs.WithdrawFaults.{HasFormFault, HasWithdrawFault, HasBrokenTail, LacksOriginOrPath, LacksNextHop}

-- nothing is wrong with an MP attribute
pub record IsFineMp (m : MpFound) : Type 0 where
  pub bits : m.other_bits ≡ false
  pub cut : m.state ≢ Cut
  pub unused : (family : Family) → m.state ≢ Unused family
  pub broken : (family : Family) → m.state ≢ Broken family

-- nothing is wrong with what is found
pub record IsFine (link : Link) (x : Found) : Type 0 where
  pub withdrawn : is_some x.withdrawn ≡ true
  pub nlri : is_some x.nlri ≡ true
  pub reach : IsFineMp x.reach
  pub unreach : IsFineMp x.unreach
  pub reset : x.classes.reset ≡ false
  pub withdraw : x.classes.withdraw ≡ false
  pub discard : x.classes.discard ≡ false
  pub no_repeats : x.types.has_repeats ≡ false
  pub tail : x.tail ≡ None
  pub path : ¬ LacksOriginOrPath x
  pub hop : ¬ LacksNextHop x
  pub base : IsTrue (contains link.families V4) ⊎ ((x.withdrawn ≡ Some []) × (x.nlri ≡ Some []))

both : true ≡ false → ⊥
both e = absurd cc

-- ---- what is fine is clean

no_conflict : (m : MpFound) → IsFineMp m → ¬ HasBitsInConflict m
no_conflict m fine c = both (sym c.0 ∙ fine.bits)

no_reset_of : (m : MpFound) → IsFineMp m → ¬ MayReset m
no_reset_of m fine may = elim may [ inl broken ↦ fine.broken broken.0 broken.1 | inr c ↦ no_conflict m fine c ]

no_tail : (tail : Option Tail) → tail ≡ None → ¬ HasBrokenTail tail
no_tail tail none broken = subst HasBrokenTail none broken

no_overrun : (tail : Option Tail) → tail ≡ None → ¬ HasMpOverrun tail
no_overrun tail none runs = subst HasMpOverrun none runs

no_form_fault : (link : Link) (x : Found) → IsFine link x → ¬ HasFormFault x
no_form_fault link x fine fault = elim fault [
  | inl reach ↦ no_conflict x.reach fine.reach reach
  | inr more ↦ elim more [
    | inl unreach ↦ no_conflict x.unreach fine.unreach unreach
    | inr more2 ↦ elim more2 [
      | inl tail ↦ no_tail x.tail fine.tail tail
      | inr more3 ↦ elim more3 [ inl path ↦ fine.path path | inr hop ↦ fine.hop hop ]
    ]
  ]
]

no_withdraw_fault : (link : Link) (x : Found) → IsFine link x → ¬ HasWithdrawFault x
no_withdraw_fault link x fine fault =
    elim fault [ inl class ↦ both (sym class ∙ fine.withdraw) | inr form ↦ no_form_fault link x fine form ]

no_fixed : (link : Link) (x : Found) → IsFine link x → x.reach.is_repeated ≡ false → x.unreach.is_repeated ≡ false
    → (n : ℕ) → ¬ IsFixedSubcode x n
no_fixed link x fine once also n fixed = elim fixed [
  | inl bad ↦ elim bad.1 [
    | inl withdrawn ↦ both (sym fine.withdrawn ∙ withdrawn)
    | inr nlri ↦ both (sym fine.nlri ∙ nlri)
  ]
  | inr more ↦ elim more [
    | inl repeated ↦ elim repeated.1 [
      | inl reach ↦ both (sym reach ∙ once)
      | inr unreach ↦ both (sym unreach ∙ also)
    ]
    | inr more2 ↦ elim more2 [
      | inl overrun ↦ no_overrun x.tail fine.tail overrun.1
      | inr unknown ↦ both (sym unknown.1 ∙ fine.reset)
    ]
  ]
]

no_subcode : (link : Link) (x : Found) → IsFine link x → x.reach.is_repeated ≡ false → x.unreach.is_repeated ≡ false
    → x.classes.plain_withdraw ≡ false → (n : ℕ) → ¬ (IsResetSubcode x n ⊎ IsMereSubcode x n)
no_subcode link x fine once also plain n subcode = elim subcode [
  | inl reset ↦ elim reset [
    | inl fixed ↦ no_fixed link x fine once also n fixed
    | inr more ↦ elim more [
      | inl reach ↦ fine.reach.cut reach.0
      | inr more2 ↦ elim more2 [
        | inl unreach ↦ fine.unreach.cut unreach.0
        | inr without ↦ elim without.0.3 [
          | inl broken ↦ fine.unreach.broken broken.0 broken.1
          | inr more3 ↦ elim more3 [
            | inl class ↦ both (sym class ∙ plain)
            | inr form ↦ no_form_fault link x fine form
          ]
        ]
      ]
    ]
  ]
  | inr mere ↦ elim mere [
    | inl reach ↦ no_reset_of x.reach fine.reach reach.0
    | inr more ↦ elim more [
      | inl unreach ↦ no_reset_of x.unreach fine.unreach unreach.0
      | inr nothing ↦ no_withdraw_fault link x fine nothing.0.0
    ]
  ]
]

none_disabled : (link : Link) (x : Found) → IsFine link x → (family : Family) → ¬ (IsCertain x family ⊎ IsOptional x family)
none_disabled link x fine family disabled = elim disabled [
  | inl certain ↦ elim certain [
    | inl reach ↦ fine.reach.broken family reach
    | inr unreach ↦ fine.unreach.broken family unreach
  ]
  | inr optional ↦ elim optional [
    | inl reach ↦ both (sym reach.0 ∙ fine.reach.bits)
    | inr unreach ↦ both (sym unreach.0 ∙ fine.unreach.bits)
  ]
]

pub clean_if_fine : (link : Link) (x : Found) → IsFine link x → x.reach.is_repeated ≡ false → x.unreach.is_repeated ≡ false
    → x.classes.plain_withdraw ≡ false → IsCleanBy link x
clean_if_fine link x fine once also plain = record {
  alone = record {
    no_reset = no_subcode link x fine once also plain;
    enabled = none_disabled link x fine;
    no_fault = no_withdraw_fault link x fine;
  };
  whole = record { no_discard = fine.discard; no_repeats = fine.no_repeats };
  used = record { base = fine.base; reach = fine.reach.unused; unreach = fine.unreach.unused };
}

-- ---- what is clean is fine

is_false : (b : Bool) → ¬ IsTrue b → b ≡ false
is_false true not = absurd (not refl)
is_false false not = refl

is_there : {X : Type 0} (o : Option X) → ¬ IsNone o → is_some o ≡ true
is_there None not = absurd (not refl)
is_there (Some x) not = refl

-- the bits of an MP attribute that isn't there aren't in conflict
fine_bits : (m : MpFound) (state : Mp) → m.state ≡ state → (¬ HasBitsInConflict m) → (m.state ≡ Absent → m.other_bits ≡ false)
    → (m.state ≢ Cut) → ((family : Family) → m.state ≢ Broken family) → m.other_bits ≡ false
fine_bits m Absent is conflict absent cut broken = absent is
fine_bits m Cut is conflict absent cut broken = absurd (cut is)
fine_bits m Other is conflict absent cut broken = is_false m.other_bits (λ bits. conflict (bits, inl (inl is)))
fine_bits m (Unused family) is conflict absent cut broken =
    is_false m.other_bits (λ bits. conflict (bits, inl (inr (family, is))))
fine_bits m (Broken family) is conflict absent cut broken = absurd (broken family is)
fine_bits m (Sound family contents) is conflict absent cut broken =
    is_false m.other_bits (λ bits. conflict (bits, inr (family, contents, is)))

fine_mp : (m : MpFound) → (¬ IsCut m) → (¬ MayReset m) → ((family : Family) → m.state ≢ Unused family)
    → (m.state ≡ Absent → m.other_bits ≡ false) → IsFineMp m
fine_mp m cut may unused absent = record {
  bits = fine_bits m m.state refl (λ c. may (inr c)) absent cut (λ family is. may (inl (family, is)));
  cut = cut;
  unused = unused;
  broken = λ family is. may (inl (family, is));
}

fine_tail : (tail : Option Tail) → (¬ HasBrokenTail tail) → (¬ HasMpOverrun tail) → tail ≡ None
fine_tail None broken overrun = refl
fine_tail (Some ShortHeader) broken overrun = absurd (broken tt)
fine_tail (Some (Overrun kind)) broken overrun = absurd (elim (cases_Bool (kind == 14)) [
  | inl is ↦ overrun (inl (eqb-true kind 14 is))
  | inr not ↦ elim (cases_Bool (kind == 15)) [
    | inl is ↦ overrun (inr (eqb-true kind 15 is))
    | inr nor ↦ broken (eqb-false kind 14 not, eqb-false kind 15 nor)
  ]
])

pub fine_if_clean : (link : Link) (x : Found) → IsCleanBy link x
    → (x.reach.state ≡ Absent → x.reach.other_bits ≡ false) → (x.unreach.state ≡ Absent → x.unreach.other_bits ≡ false)
    → IsFine link x
fine_if_clean link x clean absent also = record {
  withdrawn = is_there x.withdrawn (λ none. clean.alone.no_reset 10 (inl (inl (inl (refl, inl none)))));
  nlri = is_there x.nlri (λ none. clean.alone.no_reset 10 (inl (inl (inl (refl, inr none)))));
  reach = fine_mp x.reach (λ cut. clean.alone.no_reset 9 (inl (inr (inl (cut, inl refl)))))
      (λ may. clean.alone.no_reset 9 (inr (inl (may, inl refl)))) clean.used.reach absent;
  unreach = fine_mp x.unreach (λ cut. clean.alone.no_reset 9 (inl (inr (inr (inl (cut, inl refl))))))
      (λ may. clean.alone.no_reset 9 (inr (inr (inl (may, inl refl))))) clean.used.unreach also;
  reset = is_false x.classes.reset (λ is. clean.alone.no_reset 2 (inl (inl (inr (inr (inr (refl, is)))))));
  withdraw = is_false x.classes.withdraw (λ is. clean.alone.no_fault (inl is));
  discard = clean.whole.no_discard;
  no_repeats = clean.whole.no_repeats;
  tail = fine_tail x.tail (λ broken. clean.alone.no_fault (inr (inr (inr (inl broken)))))
      (λ overrun. clean.alone.no_reset 1 (inl (inl (inr (inr (inl (inl refl, overrun)))))));
  path = λ lacks. clean.alone.no_fault (inr (inr (inr (inr (inl lacks)))));
  hop = λ lacks. clean.alone.no_fault (inr (inr (inr (inr (inr lacks)))));
  base = clean.used.base;
}
