use Rattle.std.proofs.Common.{◌≡◌, ◌∙◌, ◌+◌, ℕ, ap, arith, length}
use Rattle.bgp_ladder.proofs.InRuns.{last_here}
use Rattle.bgp_ladder.proofs.runs.run_behind.Goals as goal

pub returns-clause-run : goal.returns-clause-run
returns-clause-run c =
    let entries = c.args.entries.now in
    let count = c.loop-count.count in
    let first = c.requires in
    let all = c.loop-count-test.false in
    let most = c.loop-count.auto.count-end in
    let last : c.args.number + count + 1 ≡ length entries = omega (arith, first, all, most) in
    let is = c.loop-count.invariant ∙ ap (λ (n : ℕ). count + n) (last_here c.args.ladder.now entries (c.args.number + count) last) in
    omega (arith, is, last)
