use Rattle.std.proofs.Common.{◌≡◌, ◌++◌, drop}
use Rattle.std.specs.List.{flat_map}
use Rattle.bgp_json_values.specs.Objects.{values_tokens}
use Rattle.bgp_json_verdicts.specs.RouteJson.{path_values}
use Rattle.bgp_json_verdicts.proofs.Parts.{segment_tokens}
use Rattle.bgp_json_verdicts.proofs.route.put_segments.Given as goal

-- what is written and what is left to write are all
abbrev pub invariant-loop-segment : goal.invariant-loop-segment
invariant-loop-segment g l =
    (l.writer.before ≡ l.fn.writer.before)
    × (l.writer.tokens ++ flat_map segment_tokens (drop l.segment-index l.fn.segments)
    ≡ l.fn.writer.tokens ++ values_tokens (path_values l.fn.segments))
