use Rattle.std.proofs.Common.{List, subst, sym, arith, take}
use Rattle.std.proofs.lemmas.List.{take_more, take_all}
use Rattle.bgp_machine.specs.declared.rows.ReceivedRow.{ReceivedRow}
use Rattle.bgp_machine.specs.Listed.{changes_of}
use Rattle.bgp_machine.specs.Rows.{ListsRows, UpdateShown, update_rows}
use Rattle.bgp_machine.proofs.updates.update_steps.Goals as goal

pub loop-row-preserved : goal.loop-row-preserved
loop-row-preserved g c = record {
  listed = λ octets are. subst (λ (rs : List ReceivedRow). ListsRows (UpdateShown c.args.own c.args.timer c.args.t octets) (changes_of c.args.outcomes.now.changes) rs c.add_update.new.steps.items)
      (sym (take_more update_rows c.loop-row.row-index _ c.loop-row-test.true))
      (c.add_update.ensures.listed octets (take c.loop-row.row-index update_rows) are (c.loop-row.invariant.listed octets are));
  room = omega arith;
}

pub returns : goal.returns
returns g c octets are =
    subst (λ (rs : List ReceivedRow). ListsRows (UpdateShown c.args.own c.args.timer c.args.t octets) (changes_of c.args.outcomes.now.changes) rs c.loop-row.steps.items)
    (take_all c.loop-row.row-index update_rows c.loop-row-test.false) (c.loop-row.invariant.listed octets are)
