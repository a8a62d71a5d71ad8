use Rattle.std.proofs.Common.{◌↔◌, IsTrue, subst, ◌∙◌}
use Rattle.bgp_orders.proofs.Steps.{if_ok}
use Rattle.bgp_instead.specs.Places.{Could}
use Rattle.bgp_instead.proofs.asking.could_update.Goals as goal

pub returns : goal.returns
returns g c = λ of.
    if_ok c.could_send.result _ _
    (λ could h. subst (λ v. IsTrue could ↔ Could of v) (c.as_slice.ensures.value ∙ c.in_ok-put_empty_update.ensures) h)
    (c.could_send.ensures of)
