use Rattle.std.proofs.Common.{◌≢◌, ℕ, IsTrue, subst, sym}
use Rattle.bgp_wire.specs.AsNumber.{needs_four_octets}
use Rattle.bgp_check.proofs.OwnConfigs.{none_of, own_as_fits, own_as_is_some}
use Rattle.bgp_check.proofs.widest.widest_alone.Goals as goal

pub returns-clause-none : goal.returns-clause-none
returns-clause-none c =
    let message = c.in_ok-message.message in
    none_of c.configurations.result c.args.session.now message _ c.own_as.result c.own_settings.result c.in_ok-message.ensures.open
    (subst (λ (v : ℕ). v ≢ 0) (sym c.own_as.ensures) (own_as_is_some message))
    (λ none. subst (λ (v : ℕ). ¬ IsTrue (needs_four_octets v)) (sym c.own_as.ensures) (own_as_fits message none)) c.own_settings.ensures
    c.configurations.ensures.none
