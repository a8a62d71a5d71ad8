-- The names of address families: what is printed of an Address Family Identifier and a Subsequent
-- one, as IANA's registries "Address Family Numbers" and "SAFI Values" have them.
use Rattle.std.specs.Prelude.{◌++◌, ℕ, Bool, true, false, List, [], ◌∷◌, codes}
use Rattle.std.specs.Fmt.{decimal}
use Rattle.bgp_text.specs.DeclaredFamilies.{Families}
use Rattle.bgp_names.specs.Naming.{name_of_two_in, name_or, named}

-- the Address Family Identifiers (RFC 4760, 3)
abbrev pub afi_names : List (ℕ × List ℕ)
afi_names = (1, codes "IPv4") ∷ (2, codes "IPv6") ∷ []

-- unicast and multicast (RFC 4760, 6), labeled (RFC 8277), VPN (RFC 4364, 4659), flow (RFC 8955),
-- route target (RFC 4684), VPLS (RFC 4761), EVPN (RFC 7432), BGP-LS (RFC 9552)
abbrev pub family_names : List (ℕ × ℕ × List ℕ)
family_names =
    (1, 1, codes "IPv4 unicast") ∷ (1, 2, codes "IPv4 multicast") ∷ (1, 4, codes "IPv4 labeled")
    ∷ (1, 128, codes "IPv4 VPN") ∷ (1, 132, codes "route target") ∷ (1, 133, codes "IPv4 flow")
    ∷ (2, 1, codes "IPv6 unicast") ∷ (2, 2, codes "IPv6 multicast")
    ∷ (2, 4, codes "IPv6 labeled") ∷ (2, 128, codes "IPv6 VPN") ∷ (2, 133, codes "IPv6 flow")
    ∷ (25, 65, codes "VPLS") ∷ (25, 70, codes "EVPN") ∷ (16388, 71, codes "BGP-LS") ∷ []

-- the AFI alone: its name, or `afi N`
abbrev pub afi_name : ℕ → List ℕ
afi_name afi = named (codes "afi ") afi_names afi

-- a family without a name: `afi N safi N`
abbrev pub family_numbers : ℕ → ℕ → List ℕ
family_numbers afi safi = codes "afi " ++ (decimal afi ++ (codes " safi " ++ decimal safi))

-- a family: its name, or its numbers
abbrev pub family_name : ℕ → ℕ → List ℕ
family_name afi safi =
    name_or (family_numbers afi safi) (name_of_two_in family_names afi safi)

-- families that are in use, by whether IPv4 and IPv6 unicast are among them
abbrev pub families_by : Bool → Bool → List ℕ
families_by false false = codes "none"
families_by true false = codes "IPv4"
families_by false true = codes "IPv6"
families_by true true = codes "IPv4 and IPv6"

abbrev pub families_name : Families → List ℕ
families_name families = families_by families.v4 families.v6
