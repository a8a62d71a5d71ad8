use Rattle.std.proofs.Common.{List, subst, sym, arith, take}
use Rattle.std.proofs.lemmas.List.{take_more}
use Rattle.bgp_machine.specs.declared.rows.HiddenRow.{HiddenRow}
use Rattle.bgp_machine.specs.Listed.{no_changes}
use Rattle.bgp_machine.specs.Rows.{HiddenShown, ListsRows}
use Rattle.bgp_machine.proofs.hidden.steps_of.Goals as goal

pub loop-row-preserved : goal.loop-row-preserved
loop-row-preserved c = record {
  listed = subst (λ (rs : List HiddenRow). ListsRows (HiddenShown c.args.config.now c.args.head c.args.t) no_changes rs c.add_row.new.steps.items)
      (sym (take_more c.args.rows.now c.loop-row.row-index _ c.loop-row-test.true))
      (c.add_row.ensures.listed (take c.loop-row.row-index c.args.rows.now) c.loop-row.invariant.listed);
  room = omega arith;
}
