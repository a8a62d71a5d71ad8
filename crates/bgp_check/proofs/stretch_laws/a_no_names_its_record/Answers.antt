use Rattle.bgp_check.proofs.Named.{names_its_record}
use Rattle.bgp_check.proofs.stretch_laws.a_no_names_its_record.Goals as goal

pub returns : goal.returns
returns c = names_its_record c.a_verdict_holds_under_its_configuration.ensures
