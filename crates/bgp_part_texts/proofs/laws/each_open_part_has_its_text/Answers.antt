use Rattle.bgp_part_texts.specs.Opens.{HasFields}
use Rattle.bgp_why_parts.specs.Opens.{open_parts_text}
use Rattle.bgp_part_texts.proofs.OpenParts.{one_open, open_ascii}
use Rattle.bgp_part_texts.proofs.Shown.{as_shown}
use Rattle.bgp_part_texts.proofs.laws.each_open_part_has_its_text.Goals as goal

pub returns : goal.returns
returns c =
    let whole = one_open c.each_set_of_families_has_its_text.ensures in
    record {
      whole = whole;
      shown = as_shown HasFields open_parts_text (λ parts. parts) open_ascii whole;
    }
