use Rattle.bgp_talk.proofs.ShortRecords.{each_record_short}
use Rattle.bgp_talk.proofs.laws.each_record_is_short.Goals as goal

pub returns : goal.returns
returns c = each_record_short
