use Rattle.std.proofs.Common.{◌≡◌, ◌++◌, ◌+◌, List, drop, map, true}
use Rattle.json.specs.Json.{Json}
use Rattle.bgp_judge.specs.Ends.{end_value}
use Rattle.bgp_json_check.specs.Objects.{before_json, numbered_json}
use Rattle.bgp_json_check.specs.Telling.{Tells}
use Rattle.bgp_json_check.proofs.teller.CheckTeller.put_all_before.Given as goal

-- what is told and what is left to tell are the ends
abbrev pub invariant-loop-index : goal.invariant-loop-index
invariant-loop-index g l =
    (told : List Json) × Tells l.fn.self l.self l.fn.lines l.lines told
    × (told ++ numbered_json (before_json true l.fn.self.judged) (l.index + 1) (map end_value (drop l.index l.ends))
    ≡ numbered_json (before_json true l.fn.self.judged) 1 (map end_value l.fn.ends))
