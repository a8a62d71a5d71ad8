use Rattle.arena.proofs.BlockSizes.{shifted}
use Rattle.arena.proofs.sizes.block_size.Goals as goal

pub overflow_mul-result : goal.overflow_mul-result
overflow_mul-result c =
    let last = c.last_unit-last in let bits = c.low_bits-bits in
    record { fits = shifted c.args.size last.result bits.result c.requires last.ensures bits.ensures.0 }
