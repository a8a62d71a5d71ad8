use Rattle.std.proofs.Common.{rules, ◌∙◌}
use Rattle.bgp_text.proofs.Fresh.{IsFresh}
use Rattle.bgp_tool.proofs.Raw.{decodes_raw, counts_raw}
use Rattle.bgp_tool.proofs.decoding.decode_raw.Goals as goal

pub returns-clause-text : goal.returns-clause-text
returns-clause-text g c =
    let fresh : IsFresh c.new-lines.result = record { empty = c.new-lines.ensures.empty; calm = c.new-lines.ensures.fresh } in
    let same = c.decode-end.ensures.reaches.wrote.same_sink ∙ c.new-lines.ensures.same in
    decodes_raw c.args.options g.R.Source.gives c.args.source.now c.decode-end.new.source c.new-lines.result c.decode-end.new.lines c.args.sink.now _
    fresh c.new-lines.ensures.now (search rules) (g.R.Source.failures c.args.source.now) (g.R.Source.failures c.decode-end.new.source) c.code.result
    c.decode-end.result c.decode-end.ensures.reaches c.decode-end.ensures.source_count (c.code.ensures ∙ c.status.ensures)

pub returns-clause-failures : goal.returns-clause-failures
returns-clause-failures g c =
    let fresh : IsFresh c.new-lines.result = record { empty = c.new-lines.ensures.empty; calm = c.new-lines.ensures.fresh } in
    let same = c.decode-end.ensures.reaches.wrote.same_sink ∙ c.new-lines.ensures.same in
    counts_raw c.args.options g.R.Source.gives c.args.source.now c.decode-end.new.source c.new-lines.result c.decode-end.new.lines c.args.sink.now _
    fresh c.new-lines.ensures.now (search rules) (g.R.Source.failures c.args.source.now) (g.R.Source.failures c.decode-end.new.source) c.code.result
    c.decode-end.result c.decode-end.ensures.reaches c.decode-end.ensures.source_count (c.code.ensures ∙ c.status.ensures)
