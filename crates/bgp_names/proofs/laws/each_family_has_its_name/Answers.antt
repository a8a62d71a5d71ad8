use Rattle.std.proofs.Common.{codes, refl}
use Rattle.bgp_names.specs.Families.{afi_names}
use Rattle.bgp_names.proofs.OneName.{one_name, one_family}
use Rattle.bgp_names.proofs.laws.each_family_has_its_name.Goals as goal

pub returns : goal.returns
returns c = record { families = one_family; afis = one_name (codes "afi ") afi_names refl }
