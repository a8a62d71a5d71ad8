use Rattle.bgp_tool.proofs.Lines.{starts_with_nothing, is_written}
use Rattle.bgp_json_verdicts.specs.Lines.{line_value}
use Rattle.bgp_json_verdicts.specs.Objects.{line_json}
use Rattle.bgp_json_verdicts.proofs.Shallow.{line_shallow}
use Rattle.bgp_json_verdicts.proofs.object.put_line.Goals as goal

pub put_written-requires : goal.put_written-requires
put_written-requires g c = starts_with_nothing c.start-writer.ensures.before c.write_line-written.ensures

pub returns : goal.returns
returns g c =
    let line = line_value c.args.line.now in
    c.put_written.ensures (line_json c.args.counts line) (is_written c.start-writer.ensures.tokens c.write_line-written.ensures) (line_shallow c.args.counts line)
