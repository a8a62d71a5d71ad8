use Rattle.std.proofs.Common.{rules}
use Rattle.std.proofs.lemmas.Iterator.Search.{any_from_yields_List}
use Rattle.std.proofs.lemmas.Iterator.Consumers.{YieldsList-from_first}
use Rattle.bgp_open.specs.Capability.{capability_of}
use Rattle.bgp_open.specs.RouteOffer.{offers_direction}
use Rattle.bgp_open.proofs.paths.offers_paths.Goals as goal

pub returns : goal.returns
returns c =
    any_from_yields_List (offers_direction c.args.family c.args.direction) _ _ _ c.any.ensures.ran
    (YieldsList-from_first capability_of (λ s. s) _ c.caps.ensures)
    (λ x b q k. search rules)
