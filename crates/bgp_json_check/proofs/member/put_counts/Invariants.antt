use Rattle.std.proofs.Common.{◌≡◌, ◌++◌, drop, map}
use Rattle.bgp_json_values.specs.Objects.{number_of, values_tokens}
use Rattle.bgp_json_check.proofs.member.put_counts.Given as goal

-- what is written and what is left to write are all
abbrev pub invariant-loop-count : goal.invariant-loop-count
invariant-loop-count g l =
    (l.writer.before ≡ l.fn.writer.before)
    × (l.writer.tokens ++ values_tokens (map number_of (drop l.count-index l.fn.counts))
    ≡ l.fn.writer.tokens ++ values_tokens (map number_of l.fn.counts))
