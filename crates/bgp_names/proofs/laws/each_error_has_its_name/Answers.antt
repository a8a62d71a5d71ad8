use Rattle.bgp_names.proofs.OneName.{one_code, one_subcode, one_error}
use Rattle.bgp_names.proofs.laws.each_error_has_its_name.Goals as goal

pub returns : goal.returns
returns c = record { codes = one_code; subcodes = one_subcode; errors = one_error }
