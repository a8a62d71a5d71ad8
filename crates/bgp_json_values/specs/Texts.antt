-- What short texts are in JSON.
use Rattle.std.specs.Prelude.{ℕ, List}
use Rattle.hex.specs.Hex.{encode_lower}
use Rattle.json.specs.Json.{Json, string}
use Rattle.bgp_prefix.specs.declared.address.Address.{Address}
use Rattle.bgp_prefix.specs.Prefix.{PrefixBits}
use Rattle.bgp_prefix.specs.Text.{address_text, prefix_text}
use Rattle.bgp_names.specs.Naming.{named}

-- octets in lower-case hexadecimal
abbrev pub octets_json : List ℕ → Json
octets_json octets = string (encode_lower octets)

abbrev pub address_json : Address → Json
address_json address = string (address_text address)

abbrev pub prefix_json : PrefixBits → Json
prefix_json prefix = string (prefix_text prefix)

-- the name that a table has for a number, or a word and the number
abbrev pub name_json : List ℕ → List (ℕ × List ℕ) → ℕ → Json
name_json word rows number = string (named word rows number)
