-- AS numbers that need four octets, and what stands for them where there are two (RFC 6793).
use Rattle.std.specs.Prelude.{ℕ, Bool, nat_lt, if◌then◌else◌}

-- two octets can't hold the AS number (RFC 6793, 1)
abbrev pub needs_four_octets : ℕ → Bool
needs_four_octets number = nat_lt 65535 number

-- an AS number in two octets: AS_TRANS, 23456, stands for one that needs four (RFC 6793, 3 and 9)
abbrev pub two_octet_as : ℕ → ℕ
two_octet_as number = if needs_four_octets number then 23456 else number
