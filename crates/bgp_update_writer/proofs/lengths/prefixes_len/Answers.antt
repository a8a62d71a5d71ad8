use Rattle.std.proofs.Common.{ap, subst, arith, length}
use Rattle.std.proofs.lemmas.List.Elements.{All-more}
use Rattle.bgp_prefix.specs.Prefix.{PrefixBits, IsPrefix, prefix_octets}
use Rattle.bgp_update_writer.proofs.Measured.{no_room, more_room}
use Rattle.bgp_update_writer.proofs.lengths.prefixes_len.Goals as goal

pub returns-in_err-left-clause-none : goal.returns-in_err-left-clause-none
returns-in_err-left-clause-none c =
    let same = ap (λ (q : PrefixBits). length (prefix_octets q)) c.prefix-item.is in
    rw c.from_residual.ensures (no_room c.args.prefixes.now c.loop-prefix.prefix-index c.prefix-item.result c.loop-prefix.left c.args.most c.loop-prefix-test.true c.loop-prefix.invariant.room
    (omega (arith, same, c.octet_len.ensures.value, c.in_err-left.ensures)))

pub loop-prefix-preserved : goal.loop-prefix-preserved
loop-prefix-preserved c =
    let same = ap (λ (q : PrefixBits). length (prefix_octets q)) c.prefix-item.is in
    record {
      each = All-more IsPrefix c.args.prefixes.now c.loop-prefix.prefix-index c.prefix-item.result c.loop-prefix-test.true c.loop-prefix.invariant.each (subst IsPrefix c.prefix-item.is c.prefix_is_fit.ensures);
      room = more_room c.args.prefixes.now c.loop-prefix.prefix-index c.prefix-item.result c.loop-prefix.left c.in_ok-left.left c.args.most c.loop-prefix-test.true c.loop-prefix.invariant.room
          (omega (arith, same, c.octet_len.ensures.value, c.in_ok-left.ensures));
    }
