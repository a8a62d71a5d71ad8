use Rattle.bgp_path.proofs.Lead.{merged_count}
use Rattle.bgp_path.proofs.laws.merge_keeps_the_count.Goals as goal

pub returns : goal.returns
returns c = merged_count
