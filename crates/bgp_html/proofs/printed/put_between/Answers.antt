use Rattle.std.proofs.Common.{◌∙◌, ◌++◌, [], Bool, if◌then◌else◌, subst, sym}
use Rattle.bgp_text.proofs.Pieces.{Joins, and_then}
use Rattle.bgp_text.specs.Lines.{Writes}
use Rattle.bgp_html.specs.Printed.{kind_start}
use Rattle.bgp_html.specs.Taking.{open_end}
use Rattle.bgp_html.proofs.printed.put_between.Goals as goal

pub returns-then-not-joins : goal.returns-then-not-joins
returns-then-not-joins g c =
    let law : Joins g.W.Sink = record { joined = g.met.W.Sink.joined } in
    subst (λ (is : Bool). Writes c.args.lines.now c.put_start.new.lines (if is then [] else open_end c.args.count ++ kind_start c.args.kind))
    (sym c.if-not-joins.true ∙ c.joins.ensures)
    (and_then law c.put_open_end.ensures c.put_start.ensures)
