-- How many ticks a second has.
use Rattle.std.proofs.Common.{◌<◌, ◌^◌, ◌-◌, ℕ, arith, lit<, nat_lt}
use Rattle.std.proofs.Math.Nat.{one-le-pow}
use Rattle.std.proofs.lemmas.Bool.{cond_both}
use Rattle.packets.specs.Clock.{ticks_in_second}

pub some_ticks : (resolution : ℕ) → 0 < ticks_in_second resolution
some_ticks resolution =
    let ten = one-le-pow resolution 10 (lit< tt) in
    let two = one-le-pow (resolution - 128) 2 (lit< tt) in
    cond_both (nat_lt resolution 128) (10 ^ resolution) (2 ^ (resolution - 128)) (λ (n : ℕ). 0 < n) (λ h. omega (arith, ten)) (λ h. omega (arith, two))
