use Rattle.bgp_compact.proofs.Bases.{up_base}
use Rattle.bgp_compact.proofs.base.front_base.Goals as goal

pub returns : goal.returns
returns c =
    let free = c.front_is_free.ensures.0 c.if-not-front_is_free.false in
    up_base c.args.words c.requires.fine c.requires.up free.0 free.1 (c.is_empty.ensures.no (λ t. let k : ⊥ = cc in k))
