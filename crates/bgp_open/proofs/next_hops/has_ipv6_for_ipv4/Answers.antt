use Rattle.std.proofs.Common.{rules}
use Rattle.std.proofs.lemmas.Iterator.Search.{any_from_yields_List}
use Rattle.std.proofs.lemmas.Iterator.Consumers.{YieldsList-from_first}
use Rattle.bgp_open.specs.RouteOffer.{is_ipv6_for_ipv4}
use Rattle.bgp_open.proofs.next_hops.has_ipv6_for_ipv4.Goals as goal

pub returns : goal.returns
returns c =
    any_from_yields_List is_ipv6_for_ipv4 _ _ _ c.any.ensures.ran
    (YieldsList-from_first (λ x. x) (λ s. s) _ c.new.ensures)
    (λ x b q k. search rules)
