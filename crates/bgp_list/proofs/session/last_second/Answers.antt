use Rattle.std.proofs.Common.{◌∙◌, ap}
use Rattle.mrt.specs.Layout.{Header}
use Rattle.bgp_list.proofs.Seconds.{last_is}
use Rattle.bgp_list.proofs.session.last_second.Goals as goal

pub returns-in-Some : goal.returns-in-Some
returns-in-Some c = ap (λ (h : Header). h.second) c.header.ensures ∙ last_is c.args.records.now c.in-Some.named.now c.in-Some.ensures.value
