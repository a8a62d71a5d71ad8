use Rattle.bgp_json.proofs.Lines.{starts_with_nothing, is_written}
use Rattle.bgp_list.specs.Forms.{line_json}
use Rattle.bgp_list.specs.Lines.{line_value}
use Rattle.bgp_list.proofs.Shallow.{line_shallow}
use Rattle.bgp_list.proofs.json_text.add_line.Goals as goal

pub add_written-requires : goal.add_written-requires
add_written-requires g c = starts_with_nothing c.start-writer.ensures.before c.in_ok-write.ensures

pub returns : goal.returns
returns g c = c.add_written.ensures (line_json (line_value c.args.line.now)) (is_written c.start-writer.ensures.tokens c.in_ok-write.ensures) (line_shallow (line_value c.args.line.now))
