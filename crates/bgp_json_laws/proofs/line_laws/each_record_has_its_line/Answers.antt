use Rattle.bgp_json_laws.proofs.Records.{same_record_line, same_records}
use Rattle.bgp_json_laws.proofs.line_laws.each_record_has_its_line.Goals as goal

pub returns : goal.returns
returns c = record { lines = same_record_line; texts = same_records }
