use Rattle.std.proofs.Common.{◌∙◌, ap, not}
use Rattle.bgp_ladder.proofs.Plain.{parts_plain}
use Rattle.bgp_ladder.proofs.batch.are_plain.Goals as goal

pub returns-then-is_none : goal.returns-then-is_none
returns-then-is_none c = λ none.
    parts_plain c.args.octets.now c.memchr3.result c.memchr2.result (c.is_none.ensures ∙ ap not c.if-is_none.true) (c.is_none-then-is_none.ensures ∙ ap not none)
    c.memchr3.ensures c.memchr2.ensures
