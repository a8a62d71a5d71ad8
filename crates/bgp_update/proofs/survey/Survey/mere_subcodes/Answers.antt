use Rattle.bgp_update.proofs.Joined.{three, then_, with_first}
use Rattle.bgp_update.proofs.survey.Survey.mere_subcodes.Goals as goal

pub returns : goal.returns
returns c = λ n.
    three _ _ _ _ _ _ _ _ (c.union.ensures n) (c.union-2.ensures n)
    (then_ _ _ _ (c.named_if.ensures n) (with_first _ _ _ c.may_reset.ensures))
    (then_ _ _ _ (c.named_if-2.ensures n) (with_first _ _ _ c.may_reset-2.ensures))
    (then_ _ _ _ (c.all_if.ensures n) (with_first _ _ _ c.has_fault_with_nothing_announced.ensures))
