use Rattle.std.proofs.Common.{map}
use Rattle.std.specs.List.{AllByRecursion}
use Rattle.bgp_part_texts.specs.Updates.{HasOctets, said}
use Rattle.bgp_why_parts.specs.Updates.{update_parts_text}
use Rattle.bgp_part_texts.proofs.Shown.{as_shown}
use Rattle.bgp_part_texts.proofs.UpdateParts.{one_update, parts_ascii}
use Rattle.bgp_part_texts.proofs.laws.each_update_part_has_its_text.Goals as goal

pub returns : goal.returns
returns c = record {
  whole = one_update;
  shown = λ is_sent. as_shown (AllByRecursion HasOctets) (update_parts_text is_sent) (map said) (parts_ascii is_sent) (one_update is_sent);
}
