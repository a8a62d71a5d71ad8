-- What is written of numbers is octets.
use Rattle.std.proofs.Common.{ℕ, zero, suc, ◌+◌, ◌<◌, List, [], ◌∷◌, ◌++◌, length, replicate, arith}
use Rattle.std.proofs.lemmas.List.Elements.{All-nil, All-cons, All-append, All-replicate}
use Rattle.byteorder.specs.Endian.{big_bytes}
use Rattle.bgp_wire.specs.Header.{header_octets}
use Rattle.bgp_wire.specs.Message.{message_octets}
use Rattle.bgp_wire.specs.Octets.{AreOctets}

abbrev pub IsOctet : ℕ → Type 0
IsOctet octet = octet < 256

-- a list of octets, as a record, from which the list is told
pub record Octets (list : List ℕ) : Type 0 where
  pub are : AreOctets list

pub none : Octets []
none = record { are = All-nil IsOctet }

pub one_more : {octet : ℕ} {list : List ℕ} → octet < 256 → Octets list → Octets (octet ∷ list)
one_more {octet = octet} {list = list} small rest = record { are = All-cons IsOctet octet list small rest.are }

pub both : {list other : List ℕ} → Octets list → Octets other → Octets (list ++ other)
both {list = list} {other = other} front back = record { are = All-append IsOctet list other front.are back.are }

pub octets-big_bytes : (count number : ℕ) → Octets (big_bytes count number)
octets-big_bytes zero number = none
octets-big_bytes (suc zero) number = one_more (omega arith) none
octets-big_bytes (suc (suc count)) number = one_more (omega arith) (octets-big_bytes (suc count) number)

pub octets-header_octets : (kind count : ℕ) → kind < 256 → Octets (header_octets kind count)
unfolding header_octets
octets-header_octets kind count small =
    let marker : Octets (replicate 16 255) = record { are = All-replicate IsOctet 16 255 (omega arith) } in
    both marker (both (octets-big_bytes 2 count) (one_more small none))

pub octets-message_octets : (kind : ℕ) (body : List ℕ) → kind < 256 → Octets body → Octets (message_octets kind body)
unfolding message_octets
octets-message_octets kind body small are = both (octets-header_octets kind (19 + length body) small) are
