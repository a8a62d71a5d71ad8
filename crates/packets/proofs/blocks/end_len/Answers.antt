use Rattle.std.proofs.Common.{◌∙◌, ap, sym, List, ℕ, arith}
use Rattle.packets.specs.Order.{number_in}
use Rattle.packets.proofs.Endings.{end_of_rest}
use Rattle.packets.proofs.blocks.end_len.Goals as goal

pub returns : goal.returns
returns c =
    let rest = c.args.rest.now in
    c.read_u32.ensures
    ∙ ap (λ (o : List ℕ). number_in c.args.order 4 o) c.split_at.ensures.back
    ∙ sym (end_of_rest c.args.order c.args.head.now rest (omega arith) c.requires)
