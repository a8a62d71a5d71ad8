use Rattle.std.proofs.Common.{◌≢◌, ℕ, IsTrue, subst, sym}
use Rattle.bgp_wire.specs.AsNumber.{needs_four_octets}
use Rattle.bgp_check.specs.WidestOf.{own_as}
use Rattle.bgp_check.proofs.OwnConfigs.{another_fits, another_is_some, none_of, own_as_fits, own_as_is_some}
use Rattle.bgp_check.proofs.widest.widest_with.Goals as goal

pub returns-clause-none : goal.returns-clause-none
returns-clause-none c =
    let message = c.in_ok-message.message in
    let number = c.as_to-number.result in
    none_of c.configurations.result c.args.session.now message _ c.another_as.result c.own_settings-another.result c.in_ok-message.ensures.open
    (subst (λ (v : ℕ). v ≢ 0) (sym c.another_as.ensures) (another_is_some number (own_as message) (own_as_is_some message)))
    (λ none. subst (λ (v : ℕ). ¬ IsTrue (needs_four_octets v)) (sym c.another_as.ensures) (another_fits number (own_as message) (own_as_fits message none)))
    c.own_settings-another.ensures c.configurations.ensures.none
