use Rattle.bgp_html.proofs.Texts.{no_markup}
use Rattle.bgp_html.proofs.laws.escaped_text_is_no_markup.Goals as goal

pub returns : goal.returns
returns c = no_markup
