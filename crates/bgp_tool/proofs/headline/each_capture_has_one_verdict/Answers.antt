use Rattle.std.proofs.Common.{◌≡◌, List, subst, sym}
use Rattle.bgp_prefix.specs.Shown.{ShownRecord}
use Rattle.bgp_tool.specs.Judging.{SaysVerdict}
use Rattle.bgp_tool.proofs.OneVerdict.{one_text, some_text}
use Rattle.bgp_tool.proofs.headline.each_capture_has_one_verdict.Goals as goal

pub returns-clause-one : goal.returns-clause-one
returns-clause-one c config octets records also text other status code spells says spelled said =
    let same : records ≡ also = c.each_capture_has_one_reading.ensures.spelling config.parts.session octets records also spells spelled in
    one_text config records c.records_have_just_one_verdict.ensures.one text other status code says
    (subst (λ (v : List ShownRecord). SaysVerdict config v other code) (sym same) said)

pub returns-clause-some : goal.returns-clause-some
returns-clause-some c config records = some_text config records c.records_have_just_one_verdict.ensures.some
