use Rattle.bgp_verdict_laws.proofs.Printed.{same_outputs, same_printed}
use Rattle.bgp_verdict_laws.proofs.laws.each_output_determines_its_text.Goals as goal

pub returns : goal.returns
returns c = record { lines = same_outputs; printed = same_printed }
