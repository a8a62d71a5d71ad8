use Rattle.bgp_update.proofs.Joined.{four, then_, with_first}
use Rattle.bgp_update.proofs.survey.Survey.reset_subcodes.Goals as goal

pub returns : goal.returns
returns c = λ n.
    four _ _ _ _ _ _ _ _ _ _ _ (c.union.ensures n) (c.union-2.ensures n) (c.union-3.ensures n)
    (c.fixed_subcodes.ensures n)
    (then_ _ _ _ (c.named_if.ensures n) (with_first _ _ _ c.is_cut.ensures))
    (then_ _ _ _ (c.named_if-2.ensures n) (with_first _ _ _ c.is_cut-2.ensures))
    (then_ _ _ _ (c.all_if.ensures n) (with_first _ _ _ c.has_fault_without_prefixes.ensures))
