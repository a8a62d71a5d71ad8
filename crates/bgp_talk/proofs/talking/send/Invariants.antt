use Rattle.std.proofs.Common.{◌≡◌, List, length}
use Rattle.bgp_talk.specs.Account.{Telling}
use Rattle.bgp_talk.specs.declared.wire.Connection.TheVariants.{Stands}
use Rattle.bgp_talk.specs.Talk.{SentSoFar}
use Rattle.bgp_talk.proofs.talking.send.Given as goal

abbrev pub invariant-loop-rest : goal.invariant-loop-rest
invariant-loop-rest g l = record {
  told : (account : List Telling) × g.W.Wire.tells l.fn.wire l.wire account × SentSoFar account l.octets l.rest;
  stands : g.W.Wire.connection l.wire ≡ Stands;
  calm : g.W.Wire.failures l.wire ≡ g.W.Wire.failures l.fn.wire;
}

abbrev pub decreases-loop-rest : goal.decreases-loop-rest
decreases-loop-rest g l = length l.rest
