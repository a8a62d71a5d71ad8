-- What an UPDATE that was received in Established asks for (RFC 4271, 6.3; RFC 7606), and its text.
use Rattle.std.specs.Prelude.{◌↔◌, ◌++◌, ◌&&◌, ◌||◌, ℕ, Bool, true, false, not, List, []}
use Rattle.std.specs.Prelude.{◌∷◌, Option, None, Some, IsTrue, MatchOption, if◌then◌else◌, map}
use Rattle.std.specs.Prelude.{codes}
use Rattle.bgp_open.specs.declared.families.Families.{Families}
use Rattle.bgp_open.specs.declared.link.Link.{Link}
use Rattle.bgp_open.specs.Families.{contains}
use Rattle.bgp_update.specs.declared.subcodes.Subcodes.{Subcodes}
use Rattle.bgp_update.specs.Changes.{RouteChanges}
use Rattle.bgp_update.specs.Disabled.{IsDisabled}
use Rattle.bgp_update.specs.Outcome.{Applied, IsOutcome, Reset}
use Rattle.bgp_update.specs.Subcodes.{HasSubcode}
use Rattle.bgp_why_parts.specs.UpdateParts.{AreUpdateParts, Part, shown_part}
use Rattle.bgp_why_parts.specs.Withdrawal.{IsWithdrawal}
use Rattle.bgp_why_parts.specs.Families.{families_name}
use Rattle.bgp_why_parts.specs.Parts.{shown_update}
use Rattle.bgp_why_parts.specs.Pieces.{separated}
use Rattle.bgp_why.specs.declared.applying.Applying.{Applying}
use Rattle.bgp_why.specs.declared.applying.AskedUpdate.{AskedUpdate}
use Rattle.bgp_why.specs.Errors.{update_errors_text}
use Rattle.bgp_why.specs.Items.{has_update_error}
use Rattle.bgp_why.specs.declared.message.MessageName.{MessageName}
use Rattle.bgp_why.specs.declared.place.Place.{Place}
use Rattle.bgp_why.specs.declared.style.Style.{Style}
use Rattle.bgp_why.specs.Asked.{received_text}

-- it may be applied, with just these families disabled then
abbrev pub MayBeApplied : Link → List ℕ → Families → Type 0
MayBeApplied link octets disabled =
    (changes : RouteChanges) × IsOutcome link octets (Applied changes disabled)

-- Where it may be applied: the sets of families that may be disabled then, and that its routes are
-- withdrawn in place of being announced (RFC 7606, 2).
pub record IsApplying (link : Link) (octets : List ℕ) (applying : Applying) : Type 0 where
  pub disabled : (disabled : Families)
      → MayBeApplied link octets disabled
      ↔ IsDisabled (λ f. IsTrue (contains applying.certain f))
      (λ f. IsTrue (contains applying.optional f)) disabled
  pub withdrawal : IsTrue applying.as_withdrawal ↔ IsWithdrawal link octets

-- what it asks for: every outcome that is allowed of it, and what keeps it from being clean
pub record AsksUpdate {X : Type 0} (link : Link) (octets : List ℕ) (asked : AskedUpdate X)
    : Type 0 where
  pub applied : MatchOption asked.applied
      ((disabled : Families) → ¬ MayBeApplied link octets disabled) (IsApplying link octets)
  pub refused : (n : ℕ) → HasSubcode asked.refused n ↔ IsOutcome link octets (Reset n)
  pub parts : AreUpdateParts link link.received octets (map shown_part asked.parts.items)

-- ---- the text

-- what stands between two outcomes
abbrev pub or_else : List ℕ
or_else = codes ", or "

-- a family may be, or may not be, among those that are disabled
abbrev pub may_disable : Bool → Bool → Bool → Bool
may_disable certain optional disabled = if disabled then certain || optional else not certain

abbrev pub may_disable_these : Applying → Families → Bool
may_disable_these applying families =
    may_disable applying.certain.v4 applying.optional.v4 families.v4
    && may_disable applying.certain.v6 applying.optional.v6 families.v6

-- its routes are withdrawn in place of being announced (RFC 7606, 2), or not
abbrev pub applied_text : Bool → List ℕ
applied_text as_withdrawal =
    if as_withdrawal then codes "to be treated as a withdrawal" else codes "to be applied"

-- the families that are disabled, if any
abbrev pub disabled_text : Families → List ℕ
disabled_text families =
    if families.v4 || families.v6
    then codes " with " ++ (families_name families ++ codes " disabled") else []

-- applied with these families disabled, where that is allowed
abbrev pub applied_piece : Option Applying → Families → Option (List ℕ)
applied_piece None families = None
applied_piece (Some applying) families =
    if may_disable_these applying families
    then Some (applied_text applying.as_withdrawal ++ disabled_text families)
    else None

-- refused by a NOTIFICATION with one of these subcodes, where there is one
abbrev pub refused_piece : Subcodes → Option (List ℕ)
refused_piece errors =
    if has_update_error errors
    then Some (codes "to be refused with NOTIFICATION " ++ update_errors_text errors) else None

abbrev pub these : Bool → Bool → Families
these v4 v6 = record { v4 = v4; v6 = v6 }

-- all that is allowed of it
abbrev pub outcomes_text : Option Applying → Subcodes → List ℕ
outcomes_text applied refused =
    separated or_else (codes ": ")
    (applied_piece applied (these false false) ∷ applied_piece applied (these true false)
    ∷ applied_piece applied (these false true) ∷ applied_piece applied (these true true)
    ∷ refused_piece refused ∷ [])

-- and why, if anything keeps it from being clean
abbrev pub update_asks : Option Applying → Subcodes → List Part → List ℕ
update_asks applied refused [] = codes ": without fault"
update_asks applied refused (part ∷ parts) =
    outcomes_text applied refused ++ (codes " [RFC 7606]"
    ++ shown_update (codes "; faulty: ") false (part ∷ parts))

-- where it stands, how it is called, and what it asks for
unfoldable pub last_update_line : {X : Type 0} → Style → Place → MessageName → AskedUpdate X
    → List ℕ
last_update_line style place name asked =
    codes "  " ++ (received_text style.first place name
    ++ (update_asks asked.applied asked.refused (map shown_part asked.parts.items)
    ++ codes "\n"))
