use Rattle.std.proofs.Common.{map}
use Rattle.bgp_list.specs.Lines.{line_value}
use Rattle.bgp_list.proofs.Objects.{all_texts}
use Rattle.bgp_list.proofs.recording.put_lines.Goals as goal

pub returns-in-Text : goal.returns-in-Text
returns-in-Text g c = rw c.in-Text.is (c.put_texts.ensures, all_texts (map line_value c.args.list.now))

pub returns-in-Json : goal.returns-in-Json
returns-in-Json g c = rw c.in-Json.is c.put_objects.ensures
