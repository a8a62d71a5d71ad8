use Rattle.std.proofs.Common.{[], ◌∷◌}
use Rattle.bgp_text.proofs.Pieces.{Joins, and_then}
use Rattle.bgp_html.specs.Pieces.{Markup}
use Rattle.bgp_html.specs.declared.tag.Tag.TheVariants as tags
use Rattle.bgp_report.proofs.InLadders.{together}
use Rattle.bgp_report.proofs.Written.{ended}
use Rattle.bgp_report.proofs.stretches.put_section.Goals as goal

pub returns : goal.returns
returns g c = λ text noted.
    let law : Joins g.W.Sink = record { joined = g.met.W.Sink.joined } in
    let (pieces, are, put) = c.put_each.ensures text noted in
    (pieces, are, and_then law c.put_tag.ensures (together pieces (Markup tags.SectionEnd ∷ []) (and_then law put (ended c.put_tag-2.ensures))))
