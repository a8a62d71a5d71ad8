use Rattle.std.proofs.Common.{ap, ◌∙◌, length}
use Rattle.bgp_attr.specs.Segments.{are_segments}
use Rattle.bgp_attr.proofs.WholeSegments.{told, tells}
use Rattle.bgp_attr.proofs.PathBack.{segments_read}
use Rattle.bgp_attr.proofs.laws.segments_are_told.Goals as goal

pub returns-clause-told : goal.returns-clause-told
unfolding are_segments
returns-clause-told c = λ most width value.
    (told (length value) most width value, λ h. ap (are_segments most width) h.1 ∙ tells most width h.0 h.2)

pub returns-clause-read : goal.returns-clause-read
returns-clause-read c = segments_read
