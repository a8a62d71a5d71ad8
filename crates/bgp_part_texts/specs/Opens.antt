-- Parts of an OPEN that differ have different texts.
use Rattle.std.specs.Prelude.{◌<◌, ◌^◌, ◌≢◌, ℕ, IfSome, Option}
use Rattle.bgp_parts.specs.declared.own_open.Differing.{Differing}
use Rattle.bgp_parts.specs.declared.own_open.OpenDifferences.{OpenDifferences}
use Rattle.bgp_parts.specs.declared.own_open.OwnOpenParts.{OwnOpenParts}
use Rattle.bgp_parts.specs.declared.own_open.OwnOpenParts.TheVariants as parts
use Rattle.bgp_why_parts.specs.Opens.{open_parts_text}
use Rattle.bgp_part_texts.specs.OneText.{ShownTextsDiffer, TextsDiffer}

-- both numbers are of so many values
abbrev pub AreBelow : ℕ → Differing ℕ → Type 0
AreBelow count d = (d.sent < count) × (d.configured < count)

-- an AS number, if there is one
abbrev pub IsAsNumber : Option ℕ → Type 0
IsAsNumber number = IfSome number (λ n. n < 2 ^ 32)

-- the numbers fit the fields that they are of, and what is said to differ does
pub record AreFields (told : OpenDifferences) : Type 0 where
  pub my_as : IfSome told.my_as (AreBelow (2 ^ 16))
  pub hold : IfSome told.hold (AreBelow (2 ^ 16))
  pub id : IfSome told.id (AreBelow (2 ^ 32))
  pub as_number : IfSome told.as_number (λ d. IsAsNumber d.sent × IsAsNumber d.configured)
  pub extended : IfSome told.extended (λ d. d.sent ≢ d.configured)

abbrev pub HasFields : OwnOpenParts → Type 0
HasFields (parts.Malformed fault) = Unit {0}
HasFields (parts.Differing told) = AreFields told

abbrev pub OpenPartsDiffer : Type 0
OpenPartsDiffer = TextsDiffer HasFields open_parts_text (λ parts. parts)

abbrev pub ShownOpenPartsDiffer : Type 0
ShownOpenPartsDiffer = ShownTextsDiffer HasFields open_parts_text (λ parts. parts)
