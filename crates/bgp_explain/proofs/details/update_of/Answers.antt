use Rattle.std.proofs.Common.{ℕ, List, subst}
use Rattle.bgp_explain.specs.Updates.{Asks, asking_of}
use Rattle.bgp_explain.proofs.details.update_of.Goals as goal

pub returns-in_ok-of-in-Some : goal.returns-in_ok-of-in-Some
returns-in_ok-of-in-Some g c =
    let is = c.in_ok-of-in-Some.ensures in
    let asked = asking_of c.in_ok-of-in-Some.field-0 in
    let asks : Asks c.in-Some.link c.as_slice.result.now asked = record { applied = is.applied; refused = is.refused; parts = is.parts } in
    (c.in-Some.link, c.in-Some.ensures.some, subst (λ (o : List ℕ). Asks c.in-Some.link o asked) c.as_slice.ensures.value asks)
