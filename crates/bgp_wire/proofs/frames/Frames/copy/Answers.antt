use Rattle.std.proofs.Common.{◌∙◌, List, ℕ, subst, sym, arith}
use Rattle.bgp_wire.specs.Framing.{IsFaulty}
use Rattle.bgp_wire.proofs.frames.Frames.copy.Goals as goal

-- the copy holds what isn't handed out, and what was faulty there is faulty here
pub invariant_of-result : goal.invariant_of-result
invariant_of-result g c =
    let same = c.in_ok-copy_from_slice.ensures ∙ c.octets_from-held.ensures.rest in
    (omega arith, λ closed. subst (λ (o : List ℕ). IsFaulty c.self.inside.limit o) (sym same) (c.self.invariant.1 closed))
