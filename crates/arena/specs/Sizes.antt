-- The sizes that blocks have, in octets: four between a power of two and the next one.
use Rattle.std.specs.Prelude.{ℕ, ◌+◌, ◌-◌, ◌*◌, ◌/◌, ◌^◌}
use Rattle.std.specs.Int.{leading_zeros}
use mir.Syntax.{w64}

-- how many units of 16 octets hold n octets, less one; and 0 for no octets
abbrev pub last_unit : ℕ → ℕ
last_unit n = (n - 1) / 16

-- how many bits k has but for its three highest
abbrev pub low_bits : ℕ → ℕ
low_bits k = 64 - leading_zeros w64 k - 3

-- from one size of this order to the next, in units
abbrev pub step : ℕ → ℕ
step n = 2 ^ low_bits (last_unit n)

-- the octets of the block for n octets: the least multiple of its step that holds them
abbrev pub block_size : ℕ → ℕ
block_size n = (last_unit n / step n + 1) * step n * 16
