use Rattle.bgp_check_laws.proofs.Deeds.{deeds, sent_deeds}
use Rattle.bgp_check_laws.proofs.line_laws.each_deed_is_visible.Goals as goal

pub returns : goal.returns
returns c = record { records = deeds; messages = sent_deeds }
