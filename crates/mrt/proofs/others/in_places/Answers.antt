use Rattle.std.proofs.Common.{refl}
use Rattle.mrt.proofs.others.in_places.Goals as goal

pub returns : goal.returns
returns c =
    rw (c.pair_at.ensures, c.pair_at-2.ensures, c.pair_at-3.ensures, c.pair_at-4.ensures, c.pair_at-5.ensures, c.pair_at-6.ensures, c.pair_at-7.ensures, c.pair_at-8.ensures, c.pair_at-9.ensures) refl
