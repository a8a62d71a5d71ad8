-- Whatever the limit, each type may have 4096 octets, and none more than its Length field can say.
use Rattle.std.proofs.Common.{◌≤◌, Bool, true, false, ℕ, arith}
use Rattle.std.specs.Prelude.{◌==◌, ◌||◌, if◌then◌else◌}
use Rattle.bgp_wire.specs.declared.header.Limit.{Limit}
use Rattle.bgp_wire.specs.declared.header.Limit.TheVariants.{Plain, Extended}
use Rattle.bgp_wire.specs.Header.{greatest_length}

at_least : (long : Bool) → 4096 ≤ (if long then 65535 else 4096)
at_least true = omega arith
at_least false = omega arith

at_most : (long : Bool) → (if long then 65535 else 4096) ≤ 65535
at_most true = omega arith
at_most false = omega arith

pub allows_4096 : (limit : Limit) (kind : ℕ) → 4096 ≤ greatest_length limit kind
allows_4096 Plain kind = omega arith
allows_4096 Extended kind = at_least ((kind == 2) || (kind == 3))

pub fits_two_octets : (limit : Limit) (kind : ℕ) → greatest_length limit kind ≤ 65535
fits_two_octets Plain kind = omega arith
fits_two_octets Extended kind = at_most ((kind == 2) || (kind == 3))
