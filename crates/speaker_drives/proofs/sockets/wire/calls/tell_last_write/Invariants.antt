use Rattle.std.proofs.Common.{◌≡◌}
use Rattle.bgp_talk.specs.declared.wire.Connection.TheVariants.{Stands}
use Rattle.speaker_drives.proofs.sockets.wire.calls.tell_last_write.Given as goal

abbrev pub invariant-loop : goal.invariant-loop
invariant-loop g l = record {
  stands : g.W.Wire.connection l.wire ≡ Stands;
  failures : g.W.Wire.failures l.wire ≡ g.W.Wire.failures l.fn.wire;
}
