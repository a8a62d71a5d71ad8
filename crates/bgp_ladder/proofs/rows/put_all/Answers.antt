use Rattle.std.proofs.Common.{◌≡◌, ◌∙◌, ◌+◌, ◌-◌, ◌<◌, ℕ, List, [], ap, arith, drop, length, refl, rules, subst, sym, take}
use Rattle.bgp_text.proofs.Pieces.{Joins, nothing_yet}
use Rattle.bgp_lines.specs.Form.{nothing_before}
use Rattle.bgp_recording.specs.declared.entry.Entry.{Entry}
use Rattle.bgp_ladder.specs.Batch.{IsBatch, first_end}
use Rattle.bgp_ladder.specs.Ladder.{before_in}
use Rattle.bgp_ladder.proofs.InRuns.{is_whole, is_within, last_within, rest_here, some_of}
use Rattle.bgp_ladder.proofs.OneRow.{its_last, its_part, next_before, next_known, next_rows}
use Rattle.bgp_ladder.proofs.Words.{goes, holds_none, passed, shown_with}
use Rattle.bgp_ladder.proofs.rows.put_all.Goals as goal

pub part_of-part-requires : goal.part_of-part-requires
part_of-part-requires g c =
    let entries = c.args.entries.now in
    let i = c.loop-number.number in
    let within : i < length entries = c.loop-number-test.true in
    let whole = is_whole c.args.ladder.now entries i (some_of entries i within) within c.next_run-run.result c.next_run-run.ensures in
    omega (arith, whole)

pub summed_last-last-requires : goal.summed_last-last-requires
summed_last-last-requires g c =
    let entries = c.args.entries.now in
    let i = c.loop-number.number in
    let within : i < length entries = c.loop-number-test.true in
    is_within c.args.ladder.now entries i (some_of entries i within) within c.next_run-run.result c.next_run-run.ensures

pub put_entry-requires-clause-last : goal.put_entry-requires-clause-last
put_entry-requires-clause-last g c =
    let (puts, known, runs, batch) = c.loop-number.invariant in
    let entries = c.args.entries.now in
    let i = c.loop-number.number in
    let within : i < length entries = c.loop-number-test.true in
    let most = is_within c.args.ladder.now entries i (some_of entries i within) within c.next_run-run.result c.next_run-run.ensures in
    rw (c.part_of-part.ensures _ (is_whole c.args.ladder.now entries i (some_of entries i within) within c.next_run-run.result c.next_run-run.ensures))
    (last_within _ i _ c.next_run-run.result.behind (search (rules, most)))

pub put_entry-requires-clause-plain : goal.put_entry-requires-clause-plain
put_entry-requires-clause-plain g c plain = rw c.words-text.ensures (c.are_plain-is_plain.ensures plain _ _)

pub loop-number-init : goal.loop-number-init
loop-number-init g c = (
  ([], refl, nothing_yet g.W.Sink g.met.W.Sink.nothing c.args.lines.now.outlet c.args.lines.now.held.items),
  record { last = refl; most = refl; opened = c.new-opens.ensures },
  refl,
  holds_none c.args.ladder.now.framings nothing_before c.new-opens.result c.args.entries.now c.none-batch.result.left _
      c.new-opens.ensures c.none-batch.ensures.left c.none-batch.ensures.empty,
)

pub loop-number-preserved : goal.loop-number-preserved
loop-number-preserved g c =
    let law : Joins g.W.Sink = record { joined = g.met.W.Sink.joined } in
    let (puts, known, runs, batch) = c.loop-number.invariant in
    let entries = c.args.entries.now in
    let ladder = c.args.ladder.now in
    let i = c.loop-number.number in
    let within : i < length entries = c.loop-number-test.true in
    let before = c.loop-number.before in
    let messages = before_in nothing_before (take i entries) in
    let new = c.in_ok-batch.batch in
    let rest = drop new.at new.octets.items in
    let part = its_part ladder c.args.possible.now entries i _ within c.next_run-run.result c.part_of-part.result c.next_run-run.ensures c.part_of-part.ensures in
    let last = its_last ladder c.args.possible.now entries i _ within c.next_run-run.result c.summed_last-last.result.now c.next_run-run.ensures c.summed_last-last.ensures in
    let filled = c.in_ok-batch.ensures.holds messages known.opened
    (subst (λ (es : List Entry). IsBatch ladder.framings messages es c.loop-number.batch.left (drop c.loop-number.batch.at c.loop-number.batch.octets.items))
    (sym c.split_at.ensures.back) batch) in
    let here = subst (λ (es : List Entry). IsBatch ladder.framings messages es new.left rest) (c.split_at.ensures.back ∙ rest_here entries i _ within) filled in
    let step = goes ladder.framings _ (drop (i + 1) entries) messages c.part_of-part.result new.left rest c.take_shown.new.opens
    (c.take_shown.ensures messages known.opened) c.in_ok-batch.ensures.some here in
    let ends = c.end-end.ensures.value in
    let count : c.end-end.result - new.at ≡ first_end new.left rest = omega (arith, ends) in
    let words : c.words-text.result.now ≡ take (first_end new.left rest) rest = c.words-text.ensures ∙ ap (λ (n : ℕ). take n rest) count in
    let shown = c.put_entry.ensures step.0 (shown_with ladder.framings step.0 _ c.part_of-part.result _ _ words step.2) in (
      next_rows ladder c.args.possible.now entries i _ within before.previous before.greatest step.0 c.summed_last-last.result.now c.part_of-part.result shown.0 law
          (record { last = known.last; most = known.most; opened = step.1 }) last part puts shown.1 shown.2,
      next_known entries i _ within before.previous _ before.greatest _ c.loop-number.opens _ known c.behind-before.ensures.previous c.behind-before.ensures.greatest c.take_shown.ensures,
      c.next_run-run.ensures,
      passed ladder.framings _ _ (drop (i + 1) entries) new.left _ new.at _ (first_end new.left rest) c.end-end.result new.octets.items _
          (next_before entries i _ within) c.pass.ensures.left ends c.pass.ensures.behind c.pass.ensures.octets step.3,
    )
