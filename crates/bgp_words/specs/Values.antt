-- The values of options, as texts: numbers, a BGP Identifier, next hops and families; whether a
-- flag is given.
use Rattle.std.specs.Prelude.{◌≡◌, ◌≢◌, ◌<◌, ◌^◌, ◌⊎◌, ℕ, Bool, true, false, List, codes}
use Rattle.std.specs.Prelude.{Option, Some, None, IsSomeAnd, MatchOption, slice_get}
use Rattle.std.specs.Option.{option_map_or}
use Rattle.std.specs.Str.{bytes_eq}
use Rattle.std.specs.Str.Parse.{IsNumeral, digits_value}
use Rattle.clap.specs.Words.{Row, Text, first_of}
use Rattle.bgp_prefix.specs.Notation.{IsAddressText, IsPrefixText}
use Rattle.bgp_prefix.specs.Prefix.{PrefixBits, address_of}
use Rattle.bgp_prefix.specs.Slash.{IsAroundSlash}
use Rattle.bgp_prefix.specs.declared.address.Address.{Address}
use Rattle.bgp_prefix.specs.declared.address.Address.TheVariants.{V4, V6}
use Rattle.bgp_open.specs.Config.{IsBadHold}
use Rattle.bgp_open.specs.declared.families.Families.{Families}

-- decimal digits, with leading zeros or without, and no sign
abbrev pub IsNumberText : Text → ℕ → Type 0
IsNumberText text number = IsNumeral 10 text × (digits_value 10 text ≡ number)

-- a number of 32 bits that isn't 0
abbrev pub IsPositiveText : Text → ℕ → Type 0
IsPositiveText text number = IsNumberText text number × (number < 2 ^ 32) × (number ≢ 0)

-- a Hold Time: a number of 16 bits, 0 or at least 3 (RFC 4271, 4.2)
abbrev pub IsHoldText : Text → ℕ → Type 0
IsHoldText text hold = IsNumberText text hold × (hold < 2 ^ 16) × ¬ IsBadHold hold

-- a TCP port: a number of 16 bits that isn't 0
abbrev pub IsPortText : Text → ℕ → Type 0
IsPortText text port = IsNumberText text port × (port < 2 ^ 16) × (port ≢ 0)

-- a count of turns: a number below 2 to the 63rd
abbrev pub IsTurnsText : Text → ℕ → Type 0
IsTurnsText text turns = IsNumberText text turns × (turns < 2 ^ 63)

-- a count of seconds: a number of 16 bits
abbrev pub IsSecondsText : Text → ℕ → Type 0
IsSecondsText text seconds = IsNumberText text seconds × (seconds < 2 ^ 16)

-- a BGP Identifier: an IPv4 address that isn't 0.0.0.0 (RFC 6286, 2.1)
abbrev pub IsIdentifierText : Text → ℕ → Type 0
IsIdentifierText text id = IsAddressText text (V4 id) × (id ≢ 0)

-- a next hop of each family
abbrev pub IsNextHop4Text : Text → ℕ → Type 0
IsNextHop4Text text number = IsAddressText text (V4 number)

abbrev pub IsNextHop6Text : Text → ℕ → Type 0
IsNextHop6Text text number = IsAddressText text (V6 number)

-- the families that a word names
abbrev pub IsFamiliesText : Text → Families → Type 0
IsFamiliesText text families =
    ((text ≡ codes "v4") × (families ≡ record { v4 = true; v6 = false }))
    ⊎ ((text ≡ codes "v6") × (families ≡ record { v4 = false; v6 = true }))
    ⊎ ((text ≡ codes "both") × (families ≡ record { v4 = true; v6 = true }))

-- A prefix with bits after its length, as 10.0.0.1/8: what stands before the slash is another
-- address than the lowest of the prefix.
pub record HasBitsAfter (text : Text) : Type 0 where
  pub prefix : PrefixBits
  pub before : Text
  pub after : Text
  pub address : Address
  pub is_prefix : IsPrefixText text prefix
  pub around : IsAroundSlash text before after
  pub is_address : IsAddressText before address
  pub another : address ≢ address_of prefix

-- an option's word is there and spells the value
abbrev pub IsValue : {T : Type 0} → (Text → T → Type 0) → Text → List Row → T → Type 0
IsValue spells name rows value = IsSomeAnd (first_of name rows) (λ text. spells text value)

-- the same of an option that may be left out: then there is no value
abbrev pub IsOptional : {T : Type 0} → (Text → T → Type 0) → Text → List Row → Option T → Type 0
IsOptional spells name rows value =
    MatchOption (first_of name rows) (value ≡ None) (λ text. IsSomeAnd value (λ it. spells text it))

-- a flag is given
abbrev pub is_given : Text → List Row → Bool
is_given name rows =
    option_map_or (λ text. bytes_eq text (codes "true")) (first_of name rows) false

-- a word that is no flag: it doesn't begin with a dash
abbrev pub IsNoFlag : Text → Type 0
IsNoFlag word = slice_get word 0 ≢ Some 45
