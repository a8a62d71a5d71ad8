use Rattle.std.proofs.Common.{refl}
use Rattle.bgp_rib.proofs.UpdateLaws.{joined, none_disabled}
use Rattle.bgp_rib.proofs.laws.updates_join.Goals as goal

pub returns : goal.returns
returns c = record { joined = joined; none = λ routes. refl; one = λ update routes. refl; changes = none_disabled }
