use Rattle.std.proofs.Common.{◌≡◌, ◌<◌, ◌+◌, ◌-◌, ◌∙◌, ℕ, length, take, sym, ap, arith}
use Rattle.streams.specs.Passed.{segment_of}
use Rattle.streams.specs.Connections.{last_index}
use Rattle.streams.specs.Held.{passes}
use Rattle.streams.proofs.Numbering.{last_here, last_before}
use Rattle.streams.proofs.connections.last_between.Goals as goal

pub returns-then-has_ports-clause-index : goal.returns-then-has_ports-clause-index
returns-then-has_ports-clause-index g c =
    let n = c.loop-left.left - 1 in
    let lt : n < length c.args.list.now = omega arith in
    let up : n + 1 ≡ c.loop-left.left = omega arith in
    sym (last_here (passes (segment_of c.args.passed.now)) c.args.list.now n c.index-list-left.result lt c.index-list-left.is (sym c.if-has_ports.ensures))
    ∙ ap (λ (k : ℕ). last_index (passes (segment_of c.args.passed.now)) (take k c.args.list.now)) up
    ∙ c.loop-left.invariant.same

pub loop-left-preserved : goal.loop-left-preserved
loop-left-preserved g c =
    let n = c.loop-left.left - 1 in
    let lt : n < length c.args.list.now = omega arith in
    let up : n + 1 ≡ c.loop-left.left = omega arith in
    record {
      within = omega arith;
      same =
          last_before (passes (segment_of c.args.passed.now)) c.args.list.now n c.index-list-left.result lt c.index-list-left.is (sym c.if-has_ports.ensures)
          ∙ ap (λ (k : ℕ). last_index (passes (segment_of c.args.passed.now)) (take k c.args.list.now)) up
          ∙ c.loop-left.invariant.same;
    }
