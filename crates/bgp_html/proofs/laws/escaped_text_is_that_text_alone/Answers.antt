use Rattle.bgp_html.proofs.Texts.{that_alone}
use Rattle.bgp_html.proofs.laws.escaped_text_is_that_text_alone.Goals as goal

pub returns : goal.returns
returns c = that_alone
