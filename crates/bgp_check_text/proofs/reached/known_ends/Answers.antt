use Rattle.std.proofs.Common.{Option, ap, option_map, subst}
use Rattle.bgp_check.specs.StretchTold.{with_leaving}
use Rattle.bgp_watch.specs.Front.{FrontValue, IsWatched, front_value}
use Rattle.bgp_check_text.proofs.Fronts.{of_first}
use Rattle.bgp_check_text.proofs.reached.known_ends.Goals as goal

pub returns-then-count-most : goal.returns-then-count-most
returns-then-count-most g c = λ config records inside is.
    let front = front_value c.in_ok-count.field-0 in
    let known = subst (λ (front : Option FrontValue). IsWatched config (with_leaving records is.0) front) (ap (option_map front_value) c.in_ok-count.was) is.1 in
    of_first config records is.0 front c.args.most known c.if-count-most.true inside
