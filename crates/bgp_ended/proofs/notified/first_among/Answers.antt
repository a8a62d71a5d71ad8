use Rattle.std.proofs.Common.{◌++◌, List, option_map, subst, sym, take}
use Rattle.bgp_ended.specs.Notified.{HasFirst, Said, said_by}
use Rattle.bgp_ended.specs.Values.{ended_value}
use Rattle.bgp_ended.proofs.Firsts.{all_gone, one_on}
use Rattle.bgp_ended.proofs.notified.first_among.Goals as goal

pub loop-message-preserved : goal.loop-message-preserved
loop-message-preserved c = λ before has.
    subst (λ (said : List Said). HasFirst said (option_map ended_value c.first_with-first.result)) (sym (one_on before c.args.by c.args.messages.now c.loop-message.message-index _ c.loop-message-test.true))
    (c.first_with-first.ensures (before ++ said_by c.args.by (take c.loop-message.message-index c.args.messages.now)) (c.loop-message.invariant before has))

pub returns : goal.returns
returns c = λ before has.
    subst (λ (said : List Said). HasFirst said (option_map ended_value c.loop-message.first)) (all_gone before c.args.by c.args.messages.now c.loop-message.message-index c.loop-message-test.false)
    (c.loop-message.invariant before has)
