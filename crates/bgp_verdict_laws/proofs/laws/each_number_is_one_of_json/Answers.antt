use Rattle.bgp_verdict_laws.proofs.Numbers.{have_numbers}
use Rattle.bgp_verdict_laws.proofs.laws.each_number_is_one_of_json.Goals as goal

pub returns : goal.returns
returns c = have_numbers
