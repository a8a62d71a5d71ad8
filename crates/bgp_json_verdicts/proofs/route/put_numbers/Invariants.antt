use Rattle.std.proofs.Common.{◌≡◌, ◌++◌, drop, map}
use Rattle.bgp_json_values.specs.Objects.{number_of, values_tokens}
use Rattle.bgp_json_verdicts.proofs.route.put_numbers.Given as goal

-- what is written and what is left to write are all
abbrev pub invariant-loop-number : goal.invariant-loop-number
invariant-loop-number g l =
    (l.writer.before ≡ l.fn.writer.before)
    × (l.writer.tokens ++ values_tokens (map number_of (drop l.number-index l.fn.numbers))
    ≡ l.fn.writer.tokens ++ values_tokens (map number_of l.fn.numbers))
