-- An UPDATE changes one thing, and a clean one has one outcome.
use Rattle.std.proofs.Common.{◌≡◌, ◌↔◌, ℕ, List, Bool, true, false, IsTrue, refl, sym, subst, ◌∙◌, inl, inr}
use Rattle.bgp_open.specs.Family.TheVariants.{V4, V6}
use Rattle.bgp_update.specs.declared.destination.Destination.{Destination}
use Rattle.bgp_open.specs.declared.families.Families.{Families}
use Rattle.bgp_open.specs.declared.link.Link.{Link}
use Rattle.bgp_attr.specs.Field.{Attribute}
use Rattle.bgp_attr.specs.Split.{attributes_of}
use Rattle.bgp_update.specs.Changes.{Route, RouteChanges, AreChanges, withdrawals, announcements}
use Rattle.bgp_update.specs.Clean.{IsAppliedAlone}
use Rattle.bgp_update.specs.Disabled.{IsCertain, IsOptional, IsDisabled}
use Rattle.bgp_update.specs.Found.{Found, found}
use Rattle.bgp_open.specs.Families.{no_families}
use Rattle.bgp_update.specs.Laws.{HasOneChange, CleanHasOneOutcome}
use Rattle.bgp_update.specs.Outcome.{Outcome, Applied, Reset, IsOutcome, IsOutcomeBy}
use Rattle.bgp_update.specs.Sections.{Sections, IsUpdate}
use Rattle.bgp_update.proofs.OneSplit.{one_split}
use Rattle.bgp_update.proofs.ReadAlike.{same_found}

-- ---- one change

pub same_changes : (x : Found) (w : List Destination) (a : List Route) (c d : RouteChanges) → AreChanges x w a c → AreChanges x w a d → c ≡ d
same_changes x w a c d (inl one) (inl two) = one.1 ∙ sym two.1
same_changes x w a c d (inl one) (inr two) = absurd (two.0 one.0)
same_changes x w a c d (inr one) (inl two) = absurd (one.0 two.0)
same_changes x w a c d (inr one) (inr two) = one.1 ∙ sym two.1

-- what is an outcome under one split is one under every other
pub under : (link : Link) (octets : List ℕ) (s : Sections) (outcome : Outcome) → IsUpdate octets s → IsOutcome link octets outcome
    → IsOutcomeBy link (found link s) (attributes_of s.attributes) outcome
under link octets s outcome is (inl malformed) = absurd (malformed.0 s is)
under link octets s outcome is (inr o) =
    subst (λ (t : Sections). IsOutcomeBy link (found link t) (attributes_of t.attributes) outcome) (one_split octets o.0 s o.1 is) o.2

pub one_change : HasOneChange
one_change link octets c d f g (inl malformed) two = absurd malformed.1
one_change link octets c d f g (inr one) two =
    let other = under link octets one.0 (Applied d g) one.1 two in
    same_changes (found link one.0) _ _ c d one.2.1 other.1

-- ---- a clean UPDATE

is_false : (b : Bool) → ¬ IsTrue b → b ≡ false
is_false true h = absurd (h refl)
is_false false h = refl

none_disabled : (x : Found) → IsAppliedAlone x → IsDisabled (IsCertain x) (IsOptional x) no_families
none_disabled x h V4 = (λ certain. absurd (h.enabled V4 (inl certain)), λ on. absurd cc)
none_disabled x h V6 = (λ certain. absurd (h.enabled V6 (inl certain)), λ on. absurd cc)

only_none : (x : Found) (d : Families) → IsAppliedAlone x → IsDisabled (IsCertain x) (IsOptional x) d → d ≡ no_families
only_none x d h disabled =
    let v4 = is_false d.v4 (λ on. h.enabled V4 ((disabled V4).1 on)) in
    let v6 = is_false d.v6 (λ on. h.enabled V6 ((disabled V6).1 on)) in
    λ i. record { v4 = v4 i; v6 = v6 i }

only : (link : Link) (x : Found) (attributes : List Attribute) → IsAppliedAlone x → (outcome : Outcome) → IsOutcomeBy link x attributes outcome
    → outcome ≡ Applied (record { remove = withdrawals link x; put = announcements link x attributes }) no_families
only link x attributes h (Applied c d) (r, inl faulty, off) = absurd (h.no_fault faulty.0)
only link x attributes h (Applied c d) (r, inr sound, off) = rw (sound.1, only_none x d h off) refl
only link x attributes h (Reset n) subcode = absurd (h.no_reset n subcode)

alone_outcome : (link : Link) (x : Found) (attributes : List Attribute) → IsAppliedAlone x
    → IsOutcomeBy link x attributes (Applied (record { remove = withdrawals link x; put = announcements link x attributes }) no_families)
alone_outcome link x attributes h = ((λ r. h.no_reset r.0 (inl r.1)), inr (h.no_fault, refl), none_disabled x h)

-- an UPDATE that is applied alone has the one outcome
pub applied_alone : (link : Link) (octets : List ℕ) (s : Sections) → IsUpdate octets s → IsAppliedAlone (found link s) → (outcome : Outcome)
    → IsOutcome link octets outcome
    ↔ (outcome ≡ Applied (record { remove = withdrawals link (found link s); put = announcements link (found link s) (attributes_of s.attributes) }) no_families)
applied_alone link octets s is alone outcome = (
  λ o. only link (found link s) (attributes_of s.attributes) alone outcome (under link octets s outcome is o),
  λ same. subst (IsOutcome link octets) (sym same) (inr (s, is, alone_outcome link (found link s) (attributes_of s.attributes) alone)),
)

pub one_outcome : CleanHasOneOutcome
one_outcome sender receiver octets alike clean =
    let s = clean.1 in
    let x = found receiver s in
    let alone = subst IsAppliedAlone (same_found sender sender.sent receiver receiver.received alike s) clean.3.alone in (
      record { remove = withdrawals receiver x; put = announcements receiver x (attributes_of s.attributes) },
      applied_alone receiver octets s clean.2 alone,
    )
