-- The texts that are read as addresses (RFC 4291, 2.2) and prefixes (RFC 4632, 3.1; RFC 4291, 2.3).
use Rattle.std.specs.Prelude.{◌≡◌, ◌≤◌, ◌<◌, ◌⊎◌, ◌^◌, ℕ, ◌+◌, ◌-◌, List, ◌++◌, length, replicate}
use Rattle.std.specs.Prelude.{codes, decimal}
use Rattle.std.specs.List.{AllZip, join_with_byte}
use Rattle.std.specs.Str.Parse.{IsNumeral, digits_value}
use Rattle.bgp_prefix.specs.Address.{family_of, bit_count, ipv4_octets, ipv6_groups}
use Rattle.bgp_prefix.specs.Prefix.{PrefixBits, prefix_of}
use Rattle.bgp_prefix.specs.Text.{dotted_text}
use Rattle.bgp_prefix.specs.declared.address.Address.{Address}
use Rattle.bgp_prefix.specs.declared.address.Address.TheVariants.{V4, V6}

-- one to four hexadecimal digits of either case write the group
abbrev pub IsGroupText : List ℕ → ℕ → Type 0
IsGroupText text group = IsNumeral 16 text × (length text ≤ 4) × (digits_value 16 text ≡ group)

-- the groups with colons between them, and nothing where there is none
abbrev pub AreGroups : List ℕ → List ℕ → Type 0
AreGroups text groups =
    (texts : List (List ℕ)) × (text ≡ join_with_byte 58 texts) × AllZip IsGroupText texts groups

-- the groups on each side of `::`, which stands for one zero group or more of the eight
pub record AreShortened (text groups : List ℕ) : Type 0 where
  pub head_text : List ℕ
  pub tail_text : List ℕ
  pub head : List ℕ
  pub tail : List ℕ
  pub spelled : text ≡ head_text ++ (codes "::" ++ tail_text)
  pub head_groups : AreGroups head_text head
  pub tail_groups : AreGroups tail_text tail
  pub room : length head + length tail < 8
  pub value : groups ≡ head ++ (replicate (8 - (length head + length tail)) 0 ++ tail)

-- all eight groups, or fewer and `::`. Profile: no dotted decimal in the place of the last two.
abbrev pub IsIpv6Text : List ℕ → List ℕ → Type 0
IsIpv6Text text groups = (AreGroups text groups × (length groups ≡ 8)) ⊎ AreShortened text groups

-- The text is read as the address: for IPv4 it is four decimals from 0 to 255 without leading
-- zeros, with dots between them, and so what is printed.
unfoldable pub IsAddressText : List ℕ → Address → Type 0
IsAddressText text (V4 number) = (number < 2 ^ 32) × (text ≡ dotted_text (ipv4_octets number))
IsAddressText text (V6 number) = (number < 2 ^ 128) × IsIpv6Text text (ipv6_groups number)

-- The text is read as the prefix: an address, `/` and the length in decimal without leading zeros.
-- The address's bits after so many don't matter.
pub record IsPrefixText (text : List ℕ) (prefix : PrefixBits) : Type 0 where
  pub address_text : List ℕ
  pub address : Address
  pub count : ℕ
  pub spelled : text ≡ address_text ++ (codes "/" ++ decimal count)
  pub is_address : IsAddressText address_text address
  pub fits : count ≤ bit_count (family_of address)
  pub value : prefix ≡ prefix_of address count
