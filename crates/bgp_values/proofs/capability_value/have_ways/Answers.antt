use Rattle.std.proofs.Common.{◌∙◌, ap, sym}
use Rattle.std.specs.List.{list_all}
use Rattle.bgp_values.specs.CapabilityValue.{has_way}
use Rattle.bgp_values.proofs.capability_value.have_ways.Goals as goal

pub returns-then-not-has_way : goal.returns-then-not-has_way
returns-then-not-has_way c =
    let no = sym c.has_way.ensures ∙ c.if-not-has_way.true in
    (rw no at (ap (list_all has_way) (sym c.in-Some.ensures.some))) ∙ c.loop-piece.invariant

pub loop-piece-preserved : goal.loop-piece-preserved
loop-piece-preserved c =
    let yes = sym c.has_way.ensures ∙ c.if-not-has_way.false in
    (rw yes at (ap (list_all has_way) (sym c.in-Some.ensures.some))) ∙ c.loop-piece.invariant

pub returns : goal.returns
returns c = sym (ap (list_all has_way) c.in_default.ensures.none) ∙ c.loop-piece.invariant
