use Rattle.std.proofs.Common.{◌∙◌, ℕ, List, ◌++◌, ap, inl, inr}
use Rattle.bgp_explain.specs.Text.{no_memory_line}
use Rattle.bgp_explain.proofs.headline.explained_as_judged.Goals as goal

pub returns : goal.returns
returns c config octets records also micros skipped text other status code spells (inl is) spelled said =
    let (same, equal) = c.each_capture_has_one_verdict.ensures.one config octets records also is.first other status code spells is.says spelled said in
    (equal, (is.more, is.whole ∙ ap (λ (t : List ℕ). t ++ is.more) same))
returns c config octets records also micros skipped text other status code spells (inr is) spelled said =
    let (same, equal) = c.each_capture_has_one_verdict.ensures.one config octets records also is.first other status code spells is.says spelled said in
    (equal, (no_memory_line, is.whole ∙ ap (λ (t : List ℕ). t ++ no_memory_line) same))
