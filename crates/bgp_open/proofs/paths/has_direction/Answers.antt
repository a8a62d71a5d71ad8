use Rattle.std.proofs.Common.{rules}
use Rattle.std.proofs.lemmas.Iterator.Search.{any_from_yields_List}
use Rattle.std.proofs.lemmas.Iterator.Consumers.{YieldsList-from_first}
use Rattle.bgp_open.specs.RouteOffer.{names_direction}
use Rattle.bgp_open.proofs.paths.has_direction.Goals as goal

pub returns : goal.returns
returns c =
    any_from_yields_List (names_direction c.args.family c.args.direction) _ _ _ c.any.ensures.ran
    (YieldsList-from_first (λ x. x) (λ s. s) _ c.new.ensures)
    (λ x b q k. search rules)
