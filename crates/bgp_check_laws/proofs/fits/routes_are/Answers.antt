use Rattle.std.proofs.Common.{◌≡◌, ◌∙◌, ◌++◌, List, [], ◌∷◌, All, ap, append-nil, append_assoc, subst, sym}
use Rattle.std.proofs.lemmas.List.Elements.{All-nil, All-push}
use Rattle.bgp_path.specs.Path.{PathValue}
use Rattle.bgp_update.specs.declared.destination.Destination.{Destination}
use Rattle.bgp_check_laws.specs.Ranges.{IsRoute}
use Rattle.bgp_check_laws.proofs.fits.routes_are.Goals as goal

pub loop-destination-init : goal.loop-destination-init
loop-destination-init g c = ([], All-nil IsRoute, c.into_iter-destination-iterator.ensures.into_iter_gives ∙ c.routes-destination-items.ensures.rest)

pub loop-destination-preserved : goal.loop-destination-preserved
loop-destination-preserved g c =
    let so_far = c.loop-destination.invariant in
    let route : Destination × PathValue = (c.in-Some.destination, c.in-Some.path.now) in (
      so_far.0 ++ route ∷ [],
      All-push IsRoute so_far.0 route so_far.1 c.route_is.ensures,
      append_assoc so_far.0 (route ∷ []) c.next.new.self ∙ sym (ap (λ (left : List (Destination × PathValue)). so_far.0 ++ left) c.in-Some.ensures.steps) ∙ so_far.2,
    )

pub returns : goal.returns
returns g c =
    let so_far = c.loop-destination.invariant in
    let all : so_far.0 ≡ c.args.rib.now.entries =
    sym (append-nil so_far.0) ∙ sym (ap (λ (left : List (Destination × PathValue)). so_far.0 ++ left) c.in-None.ensures.steps.0) ∙ so_far.2
    in
    subst (All IsRoute) all so_far.1
