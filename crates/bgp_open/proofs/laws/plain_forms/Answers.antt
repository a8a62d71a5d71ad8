use Rattle.bgp_open.proofs.SettledForms.{forms_are_plain}
use Rattle.bgp_open.proofs.laws.plain_forms.Goals as goal

pub returns : goal.returns
returns c = forms_are_plain
