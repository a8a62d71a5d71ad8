-- What a session can receive: octets that are a message of some kind. It is so of all octets, from
-- the size of a header on.
use Rattle.std.specs.Prelude.{◌≡◌, ◌≤◌, ◌⊎◌, ℕ, List, Option, None, Some, length}
use Rattle.bgp_open.specs.declared.config.Config.{Config}
use Rattle.bgp_open.specs.declared.families.Families.{Families}
use Rattle.bgp_open.specs.declared.link.Link.{Link}
use Rattle.bgp_machine.specs.DeclaredSubcodes.{Subcodes}
use Rattle.bgp_machine.specs.Changes.{RouteChanges}
use Rattle.bgp_machine.specs.Outcome.{IsOutcome, Applied}
use Rattle.bgp_machine.specs.declared.hearing.Heard.{Heard}
use Rattle.bgp_machine.specs.declared.hearing.Heard.TheVariants.{Update}
use Rattle.bgp_machine.specs.Heard.{Hears}
use Rattle.bgp_machine.specs.Step.{AreRefusals}

-- the octets of an UPDATE are refused or applied on the link
abbrev pub IsSettled : Option Link → List ℕ → Type 0
IsSettled None octets = Unit {0}
IsSettled (Some link) octets =
    ((subcodes : Subcodes) × AreRefusals link octets subcodes)
    ⊎ ((changes : RouteChanges) × (families : Families)
    × IsOutcome link octets (Applied changes families))

-- they are heard as something, and where that is an UPDATE, it has an outcome
pub record CanBeHeard (config : Config) (link : Option Link) (octets : List ℕ) : Type 0 where
  pub header : 19 ≤ length octets
  pub heard : Heard
  pub hears : Hears config octets heard
  pub settled : heard ≡ Update → IsSettled link octets
