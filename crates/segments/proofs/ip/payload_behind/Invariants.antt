use Rattle.std.proofs.Common.{◌≡◌, ◌≤◌, suc, length}
use Rattle.segments.specs.Ip.{payload_behind}
use Rattle.segments.proofs.ip.payload_behind.Given as goal

abbrev pub invariant-loop-len : goal.invariant-loop-len
invariant-loop-len l = record {
  same : payload_behind (suc (length l.rest)) l.header.addresses l.kind l.rest l.wire_count
      ≡ payload_behind (suc (length l.octets)) l.header.addresses l.next_header l.octets l.header.payload_len;
  kept : length l.rest ≤ l.wire_count;
}

abbrev pub decreases-loop-len : goal.decreases-loop-len
decreases-loop-len l = length l.rest
