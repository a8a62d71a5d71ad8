-- An UPDATE in which nothing is wrong is clean.
use Rattle.std.proofs.Common.{◌≡◌, ◌≢◌, ℕ, ◌⊎◌, Bool, true, false, List, [], Option, None, Some, IsTrue, IsNone, inl, inr}
use Rattle.bgp_prefix.specs.declared.family.Family.{Family}
use Rattle.bgp_prefix.specs.declared.family.Family.TheVariants.{V4}
use Rattle.bgp_open.specs.declared.link.Link.{Link}
use Rattle.bgp_open.specs.Families.{contains}
use Rattle.bgp_update.specs.declared.destination.Destination.{Destination}
use Rattle.bgp_update.specs.Found.{Found, MpFound}
use Rattle.bgp_update.specs.Mp.{Absent, Cut, Unused, Broken, Sound}
use Rattle.bgp_update.specs.MpValue.{Contents}
use Rattle.bgp_update.specs.MpFaults.{HasBitsInConflict, MayReset}
use Rattle.bgp_update.specs.WithdrawFaults.{LacksOriginOrPath, LacksNextHop, HasFormFault, HasWithdrawFault}
use Rattle.bgp_update.specs.ResetFaults.{HasFaultWithoutPrefixes, IsFixedSubcode, IsResetSubcode, IsMereSubcode}
use Rattle.bgp_update.specs.Disabled.{IsCertain, IsOptional}
use Rattle.bgp_update.specs.Clean.{IsCleanBy}

-- an attribute is missing
abbrev pub HasMissing : Found → Type 0
HasMissing x = LacksOriginOrPath x ⊎ LacksNextHop x

-- an MP attribute is not there, or right
abbrev pub IsRight : MpFound → Type 0
IsRight m =
    ((m.state ≡ Absent) ⊎ ((family : Family) × (contents : Contents) × (m.state ≡ Sound family contents)))
    × (m.other_bits ≡ false) × (m.is_repeated ≡ false)

-- nothing is wrong
pub record IsPlain (x : Found) : Type 0 where
  pub withdrawn : (destinations : List Destination) × (x.withdrawn ≡ Some destinations)
  pub nlri : (destinations : List Destination) × (x.nlri ≡ Some destinations)
  pub reach : IsRight x.reach
  pub unreach : IsRight x.unreach
  pub reset : x.classes.reset ≡ false
  pub withdraw : x.classes.withdraw ≡ false
  pub plain : x.classes.plain_withdraw ≡ false
  pub tail : x.tail ≡ None
  pub missing : ¬ HasMissing x

not_both : (b : Bool) → b ≡ false → ¬ IsTrue b
not_both b e h = absurd cc

not_cut : (m : MpFound) → IsRight m → ¬ (m.state ≡ Cut)
not_cut m (inl none, b, c) e = absurd cc
not_cut m (inr h, b, c) e = let s = h.2 in absurd cc

not_broken : (m : MpFound) (family : Family) → IsRight m → ¬ (m.state ≡ Broken family)
not_broken m family (inl none, b, c) e = absurd cc
not_broken m family (inr h, b, c) e = let s = h.2 in absurd cc

not_withdrawn : (m : MpFound) → IsRight m → ¬ HasBitsInConflict m
not_withdrawn m h w = not_both m.other_bits h.1 w.0

not_reset : (m : MpFound) → IsRight m → ¬ MayReset m
not_reset m h (inl broken) = not_broken m broken.0 h broken.1
not_reset m h (inr w) = not_withdrawn m h w

no_form : (x : Found) → IsPlain x → ¬ HasFormFault x
no_form x h (inl w) = not_withdrawn x.reach h.reach w
no_form x h (inr (inl w)) = not_withdrawn x.unreach h.unreach w
no_form x h (inr (inr (inl tail))) = rw h.tail at tail
no_form x h (inr (inr (inr missing))) = h.missing missing

no_fault : (x : Found) → IsPlain x → ¬ HasWithdrawFault x
no_fault x h (inl w) = not_both x.classes.withdraw h.withdraw w
no_fault x h (inr form) = no_form x h form

no_hidden : (x : Found) → IsPlain x → ¬ HasFaultWithoutPrefixes x
no_hidden x h hidden = elim hidden.3 [
  | inl broken ↦ not_broken x.unreach broken.0 h.unreach broken.1
  | inr (inl w) ↦ not_both x.classes.plain_withdraw h.plain w
  | inr (inr form) ↦ no_form x h form
]

no_some : true ≡ false → ⊥
no_some e = absurd cc

not_none : {A : Type 0} (x : Option A) (a : A) → x ≡ Some a → ¬ IsNone x
not_none x a e n = absurd (no_some (rw e at n))

no_fixed : (x : Found) → IsPlain x → (n : ℕ) → ¬ IsFixedSubcode x n
no_fixed x h n (inl (e, inl none)) = not_none x.withdrawn h.withdrawn.0 h.withdrawn.1 none
no_fixed x h n (inl (e, inr none)) = not_none x.nlri h.nlri.0 h.nlri.1 none
no_fixed x h n (inr (inl (e, inl r))) = not_both x.reach.is_repeated h.reach.2 r
no_fixed x h n (inr (inl (e, inr r))) = not_both x.unreach.is_repeated h.unreach.2 r
no_fixed x h n (inr (inr (inl (e, tail)))) = rw h.tail at tail
no_fixed x h n (inr (inr (inr (e, r)))) = not_both x.classes.reset h.reset r

no_reset : (x : Found) → IsPlain x → (n : ℕ) → ¬ IsResetSubcode x n
no_reset x h n (inl fixed) = no_fixed x h n fixed
no_reset x h n (inr (inl (cut, e))) = not_cut x.reach h.reach cut
no_reset x h n (inr (inr (inl (cut, e)))) = not_cut x.unreach h.unreach cut
no_reset x h n (inr (inr (inr (hidden, e)))) = no_hidden x h hidden

no_mere : (x : Found) → IsPlain x → (n : ℕ) → ¬ IsMereSubcode x n
no_mere x h n (inl (m, e)) = not_reset x.reach h.reach m
no_mere x h n (inr (inl (m, e))) = not_reset x.unreach h.unreach m
no_mere x h n (inr (inr m)) = no_fault x h m.0.0

no_sure : (x : Found) → IsPlain x → (family : Family) → ¬ IsCertain x family
no_sure x h family (inl e) = not_broken x.reach family h.reach e
no_sure x h family (inr e) = not_broken x.unreach family h.unreach e

no_free : (x : Found) → IsPlain x → (family : Family) → ¬ IsOptional x family
no_free x h family (inl (b, e)) = not_both x.reach.other_bits h.reach.1 b
no_free x h family (inr (b, e)) = not_both x.unreach.other_bits h.unreach.1 b

neither : (x : Found) → IsPlain x → (family : Family) → ¬ (IsCertain x family ⊎ IsOptional x family)
neither x h family (inl sure) = no_sure x h family sure
neither x h family (inr free) = no_free x h family free

-- nothing is discarded, repeated or of a family that isn't in use
pub record IsTidy (link : Link) (x : Found) : Type 0 where
  pub discard : x.classes.discard ≡ false
  pub repeats : x.types.has_repeats ≡ false
  pub base : IsTrue (contains link.families V4) ⊎ ((x.withdrawn ≡ Some []) × (x.nlri ≡ Some []))

not_unused : (m : MpFound) (family : Family) → IsRight m → m.state ≢ Unused family
not_unused m family (inl none, b, c) e = absurd cc
not_unused m family (inr h, b, c) e = let s = h.2 in absurd cc

pub clean : (link : Link) (x : Found) → IsPlain x → IsTidy link x → IsCleanBy link x
clean link x h t = record {
  alone = record {
    no_reset = λ n. (λ r. elim r [
      | inl sure ↦ no_reset x h n sure
      | inr mere ↦ no_mere x h n mere
    ]);
    enabled = λ family. neither x h family;
    no_fault = no_fault x h;
  };
  whole = record { no_discard = t.discard; no_repeats = t.repeats };
  used = record {
    base = t.base;
    reach = λ family. not_unused x.reach family h.reach;
    unreach = λ family. not_unused x.unreach family h.unreach;
  };
}
