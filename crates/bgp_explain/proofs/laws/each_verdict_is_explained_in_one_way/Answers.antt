use Rattle.bgp_explain.proofs.OneText.{one_text}
use Rattle.bgp_explain.proofs.laws.each_verdict_is_explained_in_one_way.Goals as goal

pub returns : goal.returns
returns c =
    one_text c.subcodes_are_sets.ensures c.each_record_is_allowed.ensures c.records_have_just_one_verdict.ensures.one c.each_capture_has_one_verdict.ensures.one
