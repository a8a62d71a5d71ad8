use Rattle.std.proofs.Common.{◌≡◌, ◌∙◌, ◌++◌, [], List, ℕ, refl, get_or, subst}
use Rattle.std.proofs.Math.ListN.{drop_of_length-le}
use Rattle.std.proofs.lemmas.List.{get_or_default}
use Rattle.std.specs.List.{flat_map}
use Rattle.bgp_text.proofs.Joined.{one_more, none_left}
use Rattle.bgp_text.proofs.Pieces.{Joins, and_then, nothing_yet}
use Rattle.bgp_text.specs.Lines.{Writes}
use Rattle.bgp_html.proofs.Names.{name_html, shown_html}
use Rattle.bgp_html.proofs.head.put_name.Goals as goal

pub loop-octet-init : goal.loop-octet-init
loop-octet-init g c =
    ([], nothing_yet g.W.Sink g.met.W.Sink.nothing c.args.lines.now.outlet c.args.lines.now.held.items, refl)

pub loop-octet-preserved : goal.loop-octet-preserved
loop-octet-preserved g c =
    let law : Joins g.W.Sink = record { joined = g.met.W.Sink.joined } in
    let so_far = c.loop-octet.invariant in
    let value = get_or c.args.name.now c.loop-octet.octet-index 0 in (
      so_far.0 ++ name_html value,
      and_then law so_far.1 c.put_name_octet.ensures,
      one_more name_html so_far.0 (flat_map name_html c.args.name.now) c.args.name.now c.loop-octet.octet-index value c.loop-octet-test.true (get_or_default c.args.name.now c.loop-octet.octet-index 0 value c.loop-octet-test.true) so_far.2,
    )

pub returns : goal.returns
returns g c =
    let so_far = c.loop-octet.invariant in
    let all : so_far.0 ≡ flat_map name_html c.args.name.now =
    none_left name_html so_far.0 (flat_map name_html c.args.name.now) c.args.name.now c.loop-octet.octet-index (drop_of_length-le c.args.name.now c.loop-octet-test.false) so_far.2
    in
    subst (λ (text : List ℕ). Writes c.args.lines.now c.loop-octet.lines text) (all ∙ shown_html c.args.name.now) so_far.1
