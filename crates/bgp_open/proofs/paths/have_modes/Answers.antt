use Rattle.std.proofs.Common.{rules}
use Rattle.std.proofs.lemmas.Iterator.Search.{all_from_yields_List}
use Rattle.std.proofs.lemmas.Iterator.Consumers.{YieldsList-from_first}
use Rattle.bgp_open.specs.RouteOffer.{has_mode}
use Rattle.bgp_open.proofs.paths.have_modes.Goals as goal

pub returns : goal.returns
returns c =
    all_from_yields_List has_mode _ _ _ c.all.ensures.ran
    (YieldsList-from_first (λ x. x) (λ s. s) _ c.new.ensures)
    (λ x b q k. search rules)
