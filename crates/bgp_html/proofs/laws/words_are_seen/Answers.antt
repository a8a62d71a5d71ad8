use Rattle.bgp_html.proofs.Seen.{words_are_seen}
use Rattle.bgp_html.proofs.laws.words_are_seen.Goals as goal

pub returns : goal.returns
returns c = words_are_seen
