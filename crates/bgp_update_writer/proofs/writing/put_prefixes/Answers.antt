use Rattle.std.proofs.Common.{ap, ◌∙◌, ◌++◌, arith, length}
use Rattle.bgp_prefix.specs.Prefix.{PrefixBits, prefix_octets}
use Rattle.bgp_update_writer.proofs.Measured.{more_put, longer, one_within}
use Rattle.bgp_update_writer.proofs.writing.put_prefixes.Goals as goal

pub put_prefix-requires : goal.put_prefix-requires
put_prefix-requires g c =
    let same = ap (λ (q : PrefixBits). length (prefix_octets q)) c.prefix-item.is in
    omega (arith, same, c.loop-prefix.invariant.len, c.loop-prefix.invariant.capacity, one_within c.args.prefixes.now c.loop-prefix.prefix-index c.prefix-item.result c.loop-prefix-test.true)

pub loop-prefix-preserved : goal.loop-prefix-preserved
loop-prefix-preserved g c =
    let same = ap (λ (q : PrefixBits). length (prefix_octets q)) c.prefix-item.is in
    let more = longer c.args.prefixes.now c.loop-prefix.prefix-index c.prefix-item.result c.loop-prefix-test.true in
    record {
      items = more_put c.args.prefixes.now c.loop-prefix.prefix-index c.prefix-item.result c.args.out.now.items c.loop-prefix.out.items c.put_prefix.new.out.items c.loop-prefix-test.true c.loop-prefix.invariant.items
          (c.put_prefix.ensures.items ∙ ap (λ (q : PrefixBits). c.loop-prefix.out.items ++ prefix_octets q) c.prefix-item.is);
      len = omega (arith, same, more, c.put_prefix.ensures.len, c.loop-prefix.invariant.len);
      capacity = omega (arith, c.put_prefix.ensures.capacity, c.loop-prefix.invariant.capacity);
    }
