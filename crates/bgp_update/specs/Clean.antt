-- A clean UPDATE: one that a speaker may send, since it leaves a peer nothing to forgive (RFC 4271,
-- 4.3 and 5; RFC 7606, 3). How routes are spelled that are sent, the link's sent form says
-- (RFC 8950, 4).
use Rattle.std.specs.Prelude.{◌≡◌, ◌≢◌, ◌≤◌, ◌⊎◌, ℕ, List, [], Some, false, IsTrue, length}
use Rattle.bgp_attr.specs.Header.{greatest_length, limit_with}
use Rattle.bgp_open.specs.Family.{Family}
use Rattle.bgp_open.specs.Family.TheVariants.{V4}
use Rattle.bgp_open.specs.declared.link.Link.{Link}
use Rattle.bgp_open.specs.Families.{contains}
use Rattle.bgp_update.specs.Disabled.{IsCertain, IsOptional}
use Rattle.bgp_update.specs.Found.{Found, found_by_form}
use Rattle.bgp_update.specs.Mp.{Unused}
use Rattle.bgp_update.specs.ResetFaults.{IsResetSubcode, IsMereSubcode}
use Rattle.bgp_update.specs.Sections.{Sections, IsUpdate}
use Rattle.bgp_update.specs.WithdrawFaults.{HasWithdrawFault}

-- the only outcome is Apply, with nothing disabled, and no fault withdraws its routes
pub record IsAppliedAlone (x : Found) : Type 0 where
  pub no_reset : (n : ℕ) → ¬ (IsResetSubcode x n ⊎ IsMereSubcode x n)
  pub enabled : (family : Family) → ¬ (IsCertain x family ⊎ IsOptional x family)
  pub no_fault : ¬ HasWithdrawFault x

-- Rules "discarded attribute" and "repeated attribute" (RFC 7606, 2 and 3 g): the first of no type
-- is of class Discard, and no type stands more than once
pub record WastesNoAttribute (x : Found) : Type 0 where
  pub no_discard : x.classes.discard ≡ false
  pub no_repeats : x.types.has_repeats ≡ false

-- Rule "family not in use": each prefix of the base fields is of a family in use, and so is each MP
-- attribute, but for those that are neither IPv4 nor IPv6 unicast, which aren't judged (profile)
pub record IsOfFamiliesInUse (link : Link) (x : Found) : Type 0 where
  pub base : IsTrue (contains link.families V4)
      ⊎ ((x.withdrawn ≡ Some []) × (x.nlri ≡ Some []))
  pub reach : (family : Family) → x.reach.state ≢ Unused family
  pub unreach : (family : Family) → x.unreach.state ≢ Unused family

-- what is found makes an UPDATE clean
pub record IsCleanBy (link : Link) (x : Found) : Type 0 where
  pub alone : IsAppliedAlone x
  pub whole : WastesNoAttribute x
  pub used : IsOfFamiliesInUse link x

-- an UPDATE that is sent on the link may have so many octets: those of an extended message exactly
-- where the peer offers to receive them (RFC 8654, 4)
abbrev pub most_octets : Link → ℕ
most_octets link = greatest_length (limit_with link.extended) 2

-- the octets are a whole UPDATE, no more of them than the link allows, and it is clean in the form
-- in which routes are sent
abbrev pub IsClean : Link → List ℕ → Type 0
IsClean link octets =
    (length octets ≤ most_octets link)
    × (s : Sections) × IsUpdate octets s × IsCleanBy link (found_by_form link link.sent s)
