use Rattle.std.proofs.Common.{rules}
use Rattle.std.proofs.lemmas.Iterator.Search.{any_from_yields_List}
use Rattle.std.proofs.lemmas.Iterator.Consumers.{YieldsList-from_first}
use Rattle.bgp_open.specs.Capability.{capability_of}
use Rattle.bgp_open.specs.Offer.{is_as4}
use Rattle.bgp_values.proofs.opens.has_as4.Goals as goal

pub returns : goal.returns
returns c =
    any_from_yields_List is_as4 _ _ _ c.any.ensures.ran
    (YieldsList-from_first capability_of (λ s. s) _ c.caps.ensures)
    (λ x b q k. search rules)
