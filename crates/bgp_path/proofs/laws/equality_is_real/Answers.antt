use Rattle.std.specs.Cmp.Lexicographic.{bytes_decides}
use Rattle.bgp_path.specs.SameLaws.{same_segment_decides, same_path_decides}
use Rattle.bgp_path.specs.SamePathLaws.{same_large_communities_decides, same_value_decides}
use Rattle.bgp_path.proofs.laws.equality_is_real.Goals as goal

pub returns : goal.returns
returns c = (same_segment_decides, same_path_decides, bytes_decides, same_large_communities_decides, same_value_decides)
