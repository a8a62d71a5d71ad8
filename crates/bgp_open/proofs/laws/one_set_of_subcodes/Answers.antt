use Rattle.bgp_open.specs.OpenSubcodes.{mandatory_faults, permitted_faults}
use Rattle.bgp_open.proofs.OneSetOfSubcodes.{same_names, one_set}
use Rattle.bgp_open.proofs.laws.one_set_of_subcodes.Goals as goal

pub returns : goal.returns
returns c = record {
  same = same_names;
  mandatory = λ config octets. one_set (mandatory_faults config octets);
  permitted = λ octets. one_set (permitted_faults octets);
}
