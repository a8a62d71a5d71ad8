use Rattle.std.proofs.Common.{List, subst, sym, arith, take, ◌∙◌}
use Rattle.std.proofs.lemmas.List.{take_more, take_all}
use Rattle.bgp_machine.specs.declared.rows.ReceivedRow.{ReceivedRow}
use Rattle.bgp_machine.specs.Listed.{no_changes}
use Rattle.bgp_machine.specs.Rows.{HeardShown, ListsRows}
use Rattle.bgp_machine.proofs.received.heard_steps.Goals as goal

pub loop-row-preserved : goal.loop-row-preserved
loop-row-preserved c = record {
  listed = λ octets. subst (λ (rs : List ReceivedRow). ListsRows (HeardShown c.args.head c.args.t octets c.args.message) no_changes rs c.add_heard.new.steps.items)
      (sym (take_more c.rows_on-rows.result.now c.loop-row.row-index _ c.loop-row-test.true))
      (c.add_heard.ensures.listed octets (take c.loop-row.row-index c.rows_on-rows.result.now) (c.loop-row.invariant.listed octets));
  room = omega arith;
}

pub returns : goal.returns
returns c octets =
    subst (λ (rs : List ReceivedRow). ListsRows (HeardShown c.args.head c.args.t octets c.args.message) no_changes rs c.loop-row.steps.items)
    (take_all c.loop-row.row-index c.rows_on-rows.result.now c.loop-row-test.false ∙ c.rows_on-rows.ensures.rows) (c.loop-row.invariant.listed octets)
