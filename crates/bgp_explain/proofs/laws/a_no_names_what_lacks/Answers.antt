use Rattle.bgp_explain.proofs.Naming.{names_what_lacks}
use Rattle.bgp_explain.proofs.laws.a_no_names_what_lacks.Goals as goal

pub returns : goal.returns
returns c = names_what_lacks c.own_open_lacks_nothing.ensures c.possible_lacks_nothing.ensures c.clean_lacks_nothing.ensures
