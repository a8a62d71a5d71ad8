-- What may become of an UPDATE: it is applied, with some families disabled, or the session is reset
-- (RFC 4271, 6.3; RFC 7606).
use Rattle.std.specs.Prelude.{◌≡◌, ◌⊎◌, ℕ, List}
use Rattle.bgp_open.specs.declared.families.Families.{Families}
use Rattle.bgp_open.specs.declared.link.Link.{Link}
use Rattle.bgp_attr.specs.Field.{Attribute}
use Rattle.bgp_attr.specs.Split.{attributes_of}
use Rattle.bgp_update.specs.Changes.{RouteChanges, withdrawals, announcements, AreChanges}
use Rattle.bgp_update.specs.Disabled.{IsCertain, IsOptional, IsDisabled}
use Rattle.bgp_update.specs.Found.{Found, found}
use Rattle.bgp_update.specs.ResetFaults.{HasReset, IsResetSubcode, IsMereSubcode}
use Rattle.bgp_update.specs.Sections.{Sections, IsUpdate, IsMalformed}

-- one thing that may become of an UPDATE
pub data Outcome : Type 0 where
  -- the changes are applied, and then these families disabled
  Applied : RouteChanges → Families → Outcome
  -- the session is reset by a NOTIFICATION of code 3, UPDATE Message Error, with this subcode
  Reset : ℕ → Outcome

-- where no reset is demanded, the changes are applied and families disabled; a subcode is named for
-- a fault that resets, or that may
abbrev pub IsOutcomeBy : Link → Found → List Attribute → Outcome → Type 0
IsOutcomeBy link x attributes (Applied changes disabled) =
    (¬ HasReset x)
    × AreChanges x (withdrawals link x) (announcements link x attributes) changes
    × IsDisabled (IsCertain x) (IsOptional x) disabled
IsOutcomeBy link x attributes (Reset n) = IsResetSubcode x n ⊎ IsMereSubcode x n

-- of bad lengths the only outcome is a reset as Malformed Attribute List, subcode 1
abbrev pub IsMalformedOutcome : Outcome → Type 0
IsMalformedOutcome (Applied changes disabled) = ⊥
IsMalformedOutcome (Reset n) = n ≡ 1

-- the outcomes that are allowed of these octets under a link
abbrev pub IsOutcome : Link → List ℕ → Outcome → Type 0
IsOutcome link octets outcome =
    (IsMalformed octets × IsMalformedOutcome outcome)
    ⊎ ((s : Sections) × IsUpdate octets s
    × IsOutcomeBy link (found link s) (attributes_of s.attributes) outcome)

-- the only outcome is a reset, whichever its subcodes are
abbrev pub IsOnlyReset : Link → List ℕ → Type 0
IsOnlyReset link octets =
    IsMalformed octets ⊎ ((s : Sections) × IsUpdate octets s × HasReset (found link s))
