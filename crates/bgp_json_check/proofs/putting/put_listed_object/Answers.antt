use Rattle.bgp_json.proofs.Lines.{starts_with_nothing, is_written}
use Rattle.bgp_list.specs.Forms.{line_json}
use Rattle.bgp_list.specs.Lines.{line_value}
use Rattle.bgp_list.proofs.Shallow.{line_shallow}
use Rattle.bgp_json_check.proofs.putting.put_listed_object.Goals as goal

pub put_written-requires : goal.put_written-requires
put_written-requires g c = starts_with_nothing c.start-writer.ensures.before c.write-written.ensures

pub returns : goal.returns
returns g c =
    let line = line_value c.args.listed.now in
    c.put_written.ensures (line_json line) (is_written c.start-writer.ensures.tokens c.write-written.ensures) (line_shallow line)
