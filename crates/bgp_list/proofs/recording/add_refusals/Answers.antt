use Rattle.std.proofs.Common.{◌∙◌, List, ap, map, refl}
use Rattle.bgp_list.specs.Firsts.{firsts_after}
use Rattle.bgp_list.specs.Lines.{LineValue, refusal_in}
use Rattle.bgp_list.proofs.PutSoFar.{added_more, all_taken}
use Rattle.bgp_list.proofs.recording.add_refusals.Goals as goal

pub loop-line-init : goal.loop-line-init
loop-line-init c = record { added = refl; apart = c.requires }

pub loop-line-preserved : goal.loop-line-preserved
loop-line-preserved c = record {
  added = added_more c.args.list.now c.loop-line.line-index _ c.args.refusals.now.items c.loop-line.refusals.items c.add_first.new.refusals.items c.loop-line-test.true
      c.loop-line.invariant.added (rw c.refusal.ensures at c.add_first.ensures.adds);
  apart = c.add_first.ensures.apart;
}

pub returns-clause-added : goal.returns-clause-added
returns-clause-added c =
    c.loop-line.invariant.added
    ∙ ap (λ (ls : List LineValue). firsts_after c.args.refusals.now.items (map refusal_in ls)) (all_taken c.args.list.now c.loop-line.line-index c.loop-line-test.false)

pub returns-clause-apart : goal.returns-clause-apart
returns-clause-apart c = c.loop-line.invariant.apart
