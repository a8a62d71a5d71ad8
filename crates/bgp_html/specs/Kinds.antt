-- What a line of `bgp check` says, by how it begins.
use Rattle.std.specs.Prelude.{◌==◌, ◌||◌, ℕ, Bool, true, false, List, codes, if◌then◌else◌}
use Rattle.std.specs.List.{starts_with}
use Rattle.bgp_html.specs.declared.printed.Kind.{Kind}
use Rattle.bgp_html.specs.declared.printed.Kind.TheVariants as kinds

abbrev pub begins : List ℕ → List ℕ → Bool
begins line word = starts_with ◌==◌ line word

-- what is said beside an answer is indented: what could have come, or had to, stands in lines of
-- its own (`  could come here: ` and others)
abbrev pub kind_of : List ℕ → Kind
kind_of line =
    if begins line (codes "  co") || begins line (codes "  ha") then kinds.Possible else
    if begins line (codes "  or") then kinds.Possible else
    if begins line (codes "  ") then kinds.Beside else
    if begins line (codes "conn") || begins line (codes "sess") then kinds.Connection else
    if begins line (codes "yes") then kinds.Yes else
    if begins line (codes "no ") then kinds.No else
    if begins line (codes "unfi") then kinds.Unfinished else
    if begins line (codes "not ") then kinds.NotJudged else
    if begins line (codes "ends") then kinds.Totals else
    kinds.Whole

-- whether such lines are indented
abbrev pub is_indented : Kind → Bool
is_indented kinds.Connection = false
is_indented kinds.Yes = false
is_indented kinds.No = false
is_indented kinds.Unfinished = false
is_indented kinds.NotJudged = false
is_indented kinds.Possible = true
is_indented kinds.Beside = true
is_indented kinds.Whole = false
is_indented kinds.Totals = false
