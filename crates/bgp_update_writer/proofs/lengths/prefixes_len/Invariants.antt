use Rattle.std.proofs.Common.{◌≡◌, ◌+◌, All, length, take}
use Rattle.bgp_prefix.specs.Prefix.{IsPrefix}
use Rattle.bgp_update_writer.specs.Written.{nlri_octets}
use Rattle.bgp_update_writer.proofs.lengths.prefixes_len.Given as goal

abbrev pub invariant-loop-prefix : goal.invariant-loop-prefix
invariant-loop-prefix l = record {
  room : l.left + length (nlri_octets (take l.prefix-index l.prefixes)) ≡ l.most;
  each : All IsPrefix (take l.prefix-index l.prefixes);
}
