use Rattle.std.proofs.Common.{◌≡◌, ◌<◌, ◌+◌, ◌-◌, ◌∙◌, ℕ, length, take, sym, ap, arith}
use Rattle.streams.specs.Connections.{last_index}
use Rattle.bgp_recording.specs.Values.{values_of}
use Rattle.bgp_recording.specs.Waiting.{is_blamed}
use Rattle.bgp_recording.proofs.MadeOrders.{last_here, last_before}
use Rattle.bgp_recording.proofs.waiting.FirstNotification.cause.Goals as goal

pub returns-then-is_about : goal.returns-then-is_about
returns-then-is_about c =
    let n = c.loop-left.left - 1 in
    let lt : n < length c.args.received.now = omega arith in
    let up : n + 1 ≡ c.loop-left.left = omega arith in
    sym (last_here (is_blamed c.args.self.now) c.args.received.now n _ lt (sym c.if-is_about.ensures))
    ∙ ap (λ (k : ℕ). last_index (is_blamed c.args.self.now) (values_of (take k c.args.received.now))) up
    ∙ c.loop-left.invariant.same

pub loop-left-preserved : goal.loop-left-preserved
loop-left-preserved c =
    let n = c.loop-left.left - 1 in
    let lt : n < length c.args.received.now = omega arith in
    let up : n + 1 ≡ c.loop-left.left = omega arith in
    record {
      within = omega arith;
      same =
          last_before (is_blamed c.args.self.now) c.args.received.now n _ lt (sym c.if-is_about.ensures)
          ∙ ap (λ (k : ℕ). last_index (is_blamed c.args.self.now) (values_of (take k c.args.received.now))) up
          ∙ c.loop-left.invariant.same;
    }
