use Rattle.bgp_check_laws.proofs.Lines.{same_objects}
use Rattle.bgp_check_laws.proofs.Printed.{same_outputs, same_printed}
use Rattle.bgp_check_laws.proofs.laws.each_output_determines_its_text.Goals as goal

pub returns : goal.returns
returns c = record { objects = same_objects; lines = same_outputs; printed = same_printed }
