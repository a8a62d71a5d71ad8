use Rattle.bgp_open.proofs.EachOpen.{each_octets, least_fault, mandatory_fault}
use Rattle.bgp_open.proofs.LeastFault as lemmas
use Rattle.bgp_open.proofs.laws.one_fault.Goals as goal

pub returns : goal.returns
returns c =
    record {
      each = each_octets;
      one = lemmas.one_fault;
      none = lemmas.none_if_well_formed;
      least = least_fault;
      mandatory = mandatory_fault;
    }
