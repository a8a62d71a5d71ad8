use Rattle.std.proofs.Common.{◌∙◌, inl, inr, refl}
use Rattle.bgp_machine.proofs.Moves.{disabled_each}
use Rattle.bgp_compact.proofs.ending.disable.Goals as goal
use Rattle.bgp_compact.proofs.ending.disable.Goals.{then-families, else-families}

pub returns-then-families-2 : goal.returns-then-families-2
returns-then-families-2 g c =
    disabled_each c.args.families.v4 c.args.families.v6 c.args.rib.now c.if-families.rib _
    (elim c.if-families.branch [ then-families w ↦ inl (w.if-families.true, w.rib-is ∙ w.disable.ensures.routes) | else-families w ↦ inr (w.if-families.false, w.rib-is) ])
    (inl (c.if-families-2.true, c.disable-then-families-2.ensures.routes))

pub returns-else-families-2 : goal.returns-else-families-2
returns-else-families-2 g c =
    disabled_each c.args.families.v4 c.args.families.v6 c.args.rib.now c.if-families.rib _
    (elim c.if-families.branch [ then-families w ↦ inl (w.if-families.true, w.rib-is ∙ w.disable.ensures.routes) | else-families w ↦ inr (w.if-families.false, w.rib-is) ])
    (inr (c.if-families-2.false, refl))
