use Rattle.std.proofs.Common.{ap, arith}
use Rattle.std.proofs.Math.ListN.{drop_of_length-le}
use Rattle.bgp_import.specs.Captures.{put_off}
use Rattle.bgp_import.proofs.Entries.{counts_here}
use Rattle.bgp_import.proofs.capture.count_put_off.Goals as goal

pub loop-entry-preserved : goal.loop-entry-preserved
loop-entry-preserved c = record {
  counts = counts_here c.args.entries.now c.loop-entry.entry-index _ c.loop-entry-test.true c.loop-entry.made c.loop-entry.count _ c.counted-count.result c.made_by-made.result
      c.loop-entry.invariant.counts c.counted-count.ensures.count c.made_by-made.ensures;
  few = omega (arith, c.counted-count.ensures.few, c.loop-entry.invariant.few);
}

pub returns : goal.returns
returns c =
    let none = ap (put_off c.loop-entry.made) (drop_of_length-le c.args.entries.now c.loop-entry-test.false) in
    omega (arith, none, c.loop-entry.invariant.counts)
