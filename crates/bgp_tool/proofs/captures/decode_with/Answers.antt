use Rattle.std.proofs.Common.{rules}
use Rattle.bgp_text.proofs.Pieces.{Joins}
use Rattle.bgp_text.proofs.Fresh.{IsFresh}
use Rattle.bgp_tool.proofs.CaptureDecoded.{decodes_with}
use Rattle.bgp_tool.proofs.captures.decode_with.Goals as goal

pub returns : goal.returns
returns g c =
    let law : Joins g.W.Sink = record { joined = g.met.W.Sink.joined } in
    let fresh : IsFresh c.new-lines.result = record { empty = c.new-lines.ensures.empty; calm = c.new-lines.ensures.fresh } in
    rw c.code-status.ensures (decodes_with law g.S.Source.gives g.S.Source.has_ended g.S.Source.failures c.args.options.now c.args.source c.put_records-read.new.printed.source
    c.new-lines.result c.put_records-read.new.printed.lines c.finish_lines.new.lines c.args.sink.now _ fresh c.put_records-read.new.reader c.new-lines.ensures.now (search rules)
    c.put_records-read.result _ _ c.put_records-read.ensures.puts c.finish_lines.ensures c.put_records-read.ensures.failures c.refused_by.ensures)
