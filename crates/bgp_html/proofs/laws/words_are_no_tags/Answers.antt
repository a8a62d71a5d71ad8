use Rattle.bgp_html.proofs.Own.{words_are_no_tags}
use Rattle.bgp_html.proofs.laws.words_are_no_tags.Goals as goal

pub returns : goal.returns
returns c = words_are_no_tags
