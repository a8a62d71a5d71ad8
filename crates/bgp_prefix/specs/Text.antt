-- What is printed of addresses and prefixes: dotted decimal for IPv4, RFC 5952's form for IPv6.
use Rattle.std.specs.Prelude.{ℕ, zero, suc, ◌+◌, List, [], ◌∷◌, ◌++◌, take, drop, replicate, map}
use Rattle.std.specs.Prelude.{codes, decimal, bytes_eq, Option, Some, None, false, if◌then◌else◌}
use Rattle.std.specs.Fmt.{digits}
use Rattle.std.specs.List.{join_with_byte}
use Rattle.std.specs.Option.{option_map, option_or}
use Rattle.bgp_prefix.specs.Address.{ipv4_octets, ipv6_groups}
use Rattle.bgp_prefix.specs.Prefix.{PrefixBits, prefix_length, address_of}
use Rattle.bgp_prefix.specs.declared.address.Address.{Address}
use Rattle.bgp_prefix.specs.declared.address.Address.TheVariants.{V4, V6}

-- the octets in decimal, without leading zeros, with dots between them
unfoldable pub dotted_text : List ℕ → List ℕ
dotted_text octets = join_with_byte 46 (map decimal octets)

-- a group in lower-case hexadecimal, without leading zeros (RFC 5952, 4.1 and 4.3)
unfoldable pub group_text : ℕ → List ℕ
group_text group = digits 16 false group

-- groups with colons between them
unfoldable pub colon_text : List ℕ → List ℕ
colon_text groups = join_with_byte 58 (map group_text groups)

-- the first place where so many groups in a row are zero
unfoldable pub first_zeros : ℕ → List ℕ → Option ℕ
first_zeros count [] = None
first_zeros count (group ∷ groups) =
    if bytes_eq (take count (group ∷ groups)) (replicate count 0) then Some 0
    else option_map suc (first_zeros count groups)

-- the place and the length of the longest run of zero groups, of the first of those: a run of two
-- groups at least (RFC 5952, 4.2.2 and 4.2.3), and here of `most` at most
unfoldable pub longest_zeros : ℕ → List ℕ → Option (ℕ × ℕ)
longest_zeros zero groups = None
longest_zeros (suc zero) groups = None
longest_zeros (suc (suc more)) groups =
    option_or (option_map (λ place. (place, suc (suc more))) (first_zeros (suc (suc more)) groups))
    (longest_zeros (suc more) groups)

-- the groups, with `::` in place of that run
unfoldable pub shortened_text : List ℕ → Option (ℕ × ℕ) → List ℕ
shortened_text groups None = colon_text groups
shortened_text groups (Some run) =
    colon_text (take run.0 groups) ++ (codes "::" ++ colon_text (drop (run.0 + run.1) groups))

-- an address. Profile: in hexadecimal alone, where RFC 5952, 5 has dotted decimal too.
unfoldable pub address_text : Address → List ℕ
address_text (V4 number) = dotted_text (ipv4_octets number)
address_text (V6 number) =
    shortened_text (ipv6_groups number) (longest_zeros 8 (ipv6_groups number))

-- a prefix: its address, `/` and its length (RFC 4632, 3.1; RFC 4291, 2.3)
unfoldable pub prefix_text : PrefixBits → List ℕ
prefix_text prefix =
    address_text (address_of prefix) ++ (codes "/" ++ decimal (prefix_length prefix))
