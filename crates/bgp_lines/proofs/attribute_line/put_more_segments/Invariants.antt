use Rattle.std.proofs.Common.{◌≡◌, ◌++◌, List, ℕ, length, codes}
use Rattle.bgp_text.specs.Lines.{Writes}
use Rattle.bgp_lines.specs.Joined.{each_behind}
use Rattle.bgp_lines.specs.AttributeLine.{segment_text}
use Rattle.bgp_values.specs.PathSegments.{segments_of}
use Rattle.bgp_attr.specs.Segments.{number_width}
use Rattle.bgp_lines.proofs.attribute_line.put_more_segments.Given as goal

-- what is written and what is left to write are all
abbrev pub invariant-loop-segment : goal.invariant-loop-segment
invariant-loop-segment g l =
    (text : List ℕ) × Writes l.fn.lines l.lines text
    × (text ++ each_behind (codes " ") (segment_text l.as4) (segments_of (number_width l.as4) l.rest) ≡ each_behind (codes " ") (segment_text l.as4) (segments_of (number_width l.as4) l.octets))

abbrev pub decreases-loop-segment : goal.decreases-loop-segment
decreases-loop-segment g l = length l.rest
