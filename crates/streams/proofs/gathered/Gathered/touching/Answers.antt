use Rattle.std.proofs.Common.{arith}
use Rattle.streams.proofs.gathered.Gathered.touching.Goals as goal

pub returns-in-Some : goal.returns-in-Some
returns-in-Some g c =
    let is = c.requires.islands.each c.in-Some.end c.in-Some.island.now c.in-Some.ensures.is in record {
      island = c.in-Some.island.now;
      is = c.in-Some.ensures.is;
      begins = omega (arith, c.if-end-count.true, c.count.ensures.count, c.known-known.ensures.count, is.fits);
    }
