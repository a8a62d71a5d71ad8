use Rattle.std.proofs.Common.{◌∙◌, drop, arith, rules}
use Rattle.byteorder.specs.Numbers.{big_from-take}
use Rattle.bgp_wire.proofs.AllOnes.{both_greatest, not_greatest}
use Rattle.bgp_wire.proofs.header.is_synchronized.Goals as goal

pub returns-then-is_greatest : goal.returns-then-is_greatest
returns-then-is_greatest c =
    both_greatest c.args.header.now c.read_u64.result c.read_u64-then-is_greatest.result c.is_greatest.result c.is_greatest-then-is_greatest.result (search rules) (search rules) (search rules)
    (c.read_u64-then-is_greatest.ensures ∙ big_from-take 0 8 11 (drop 8 c.args.header.now) (omega arith))
    c.is_greatest.ensures c.is_greatest-then-is_greatest.ensures c.if-is_greatest.true

pub returns-else-is_greatest : goal.returns-else-is_greatest
returns-else-is_greatest c =
    not_greatest c.args.header.now c.read_u64.result c.is_greatest.result (search rules) (search rules) (search rules) c.is_greatest.ensures c.if-is_greatest.false
