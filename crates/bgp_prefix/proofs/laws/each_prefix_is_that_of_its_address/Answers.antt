use Rattle.bgp_prefix.proofs.PrintedIsRead.{lowest_address_is}
use Rattle.bgp_prefix.proofs.laws.each_prefix_is_that_of_its_address.Goals as goal

pub returns : goal.returns
returns c = record { address = λ p fits. (lowest_address_is p fits).0; prefix = λ p fits. (lowest_address_is p fits).1 }
