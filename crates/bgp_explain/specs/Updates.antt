-- What an UPDATE asks for that was received in Established, and its line (RFC 4271, 6.3; RFC 7606).
use Rattle.std.specs.Prelude.{◌↔◌, ◌++◌, ℕ, List, Option, MatchOption, map, codes}
use Rattle.bgp_open.specs.declared.families.Families.{Families}
use Rattle.bgp_open.specs.declared.link.Link.{Link}
use Rattle.bgp_update.specs.declared.subcodes.Subcodes.{Subcodes}
use Rattle.bgp_update.specs.Outcome.{IsOutcome, Reset}
use Rattle.bgp_update.specs.Subcodes.{HasSubcode}
use Rattle.bgp_parts.specs.UpdateParts.{Part, AreUpdateParts, shown_part}
use Rattle.bgp_why.specs.declared.applying.Applying.{Applying}
use Rattle.bgp_why.specs.declared.applying.AskedUpdate.{AskedUpdate}
use Rattle.bgp_why.specs.declared.message.MessageName.{MessageName}
use Rattle.bgp_why.specs.declared.place.Place.{Place}
use Rattle.bgp_why.specs.declared.style.Style.{Style}
use Rattle.bgp_why.specs.Applying.{IsApplying, MayBeApplied, update_asks}
use Rattle.bgp_why.specs.Asked.{received_text}

-- how it may be applied, by which subcodes the session may be reset, and what keeps it from being
-- clean
pub record Asking : Type 0 where
  pub applied : Option Applying
  pub refused : Subcodes
  pub parts : List Part

abbrev pub asking_of : {X : Type 0} → AskedUpdate X → Asking
asking_of asked = record {
  applied = asked.applied;
  refused = asked.refused;
  parts = map shown_part asked.parts.items;
}

-- these are all of its outcomes on the link, and all that keeps it from being clean
pub record Asks (link : Link) (octets : List ℕ) (asking : Asking) : Type 0 where
  pub applied : MatchOption asking.applied
      ((disabled : Families) → ¬ MayBeApplied link octets disabled) (IsApplying link octets)
  pub refused : (n : ℕ) → HasSubcode asking.refused n ↔ IsOutcome link octets (Reset n)
  pub parts : AreUpdateParts link link.received octets asking.parts

-- its line: where it stands, how it is called, and what it asks for
unfoldable pub update_line : Style → Place → MessageName → Asking → List ℕ
update_line style place name asking =
    codes "  " ++ (received_text style.first place name
    ++ (update_asks asking.applied asking.refused asking.parts ++ codes "\n"))
