use Rattle.bgp_prefix.proofs.PrintedTexts.{longest_zeros_first}
use Rattle.bgp_prefix.proofs.laws.the_shortened_run_is_the_first_longest.Goals as goal

pub returns : goal.returns
returns c = λ groups fits. longest_zeros_first groups 8 fits
