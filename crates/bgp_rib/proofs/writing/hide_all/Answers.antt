use Rattle.std.proofs.Common.{◌∷◌, [], ap, sym, refl, ◌∙◌, inl, inr, take}
use Rattle.std.proofs.Math.Logic.{⊎_elim}
use Rattle.bgp_rib.specs.Rooms.{routes_in}
use Rattle.bgp_rib.specs.Routes.{entries_without}
use Rattle.bgp_rib.proofs.DestinationKeys.{without_none, without_more}
use Rattle.bgp_rib.proofs.Turns.{member_at, taken_more}
use Rattle.bgp_rib.proofs.writing.hide_all.Goals as goal

pub loop-destination-init : goal.loop-destination-init
loop-destination-init g c = record {
  hidden = sym (without_none (routes_in c.args.table.now));
  rooms = λ q h. inl h;
  back = λ q. refl;
  noted = λ h. h;
}

pub returns-in_err-hide-clause-noted : goal.returns-in_err-hide-clause-noted
returns-in_err-hide-clause-noted g c = λ h. c.hide.ensures.noted (c.loop-destination.invariant.noted h)

pub loop-destination-preserved : goal.loop-destination-preserved
loop-destination-preserved g c =
    let ps = c.args.destinations.now in
    let i = c.loop-destination.destination-index in
    let p = c.destination-item.result in
    let es = routes_in c.args.table.now in
    record {
      hidden = c.in_ok-hide.ensures.hidden ∙ ap (entries_without (p ∷ [])) c.loop-destination.invariant.hidden
          ∙ without_more (take i ps) p es
          ∙ ap (λ l. entries_without l es) (sym (taken_more ps i p c.loop-destination-test.true c.destination-item.is));
      rooms = λ q h. ⊎_elim (c.loop-destination.invariant.rooms q)
          (λ t. inr (member_at ps i p q c.loop-destination-test.true c.destination-item.is t)) (c.hide.ensures.rooms q h);
      back = λ q. c.hide.ensures.back q ∙ c.loop-destination.invariant.back q;
      noted = λ h. c.hide.ensures.noted (c.loop-destination.invariant.noted h);
    }
