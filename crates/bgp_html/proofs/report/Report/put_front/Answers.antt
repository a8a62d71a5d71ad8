use Rattle.std.proofs.Common.{◌∙◌, ℕ, Some, ap, sym}
use Rattle.bgp_html.specs.Kinds.{kind_of}
use Rattle.bgp_html.specs.Taking.{open_behind}
use Rattle.bgp_html.specs.declared.printed.Element.TheVariants.{Line}
use Rattle.bgp_html.proofs.Steps.{begins, known, short_line}
use Rattle.bgp_html.proofs.report.Report.put_front.Goals as goal

pub returns-then-octet-eq10 : goal.returns-then-octet-eq10
returns-then-octet-eq10 g c =
    let self = c.args.self.now in
    let kind = c.kind_of-kind.result in
    short_line self.lines _ self.element _ self.front.items _ c.push.new.self.items self.notes _ c.args.count c.args.octet kind c.requires c.push.ensures.items
    (c.kind_of-kind.ensures ∙ ap kind_of c.as_slice.ensures.value) c.if-octet-eq10.true
    (c.open_behind-self.ensures ∙ ap (λ (n : ℕ). open_behind kind n) c.count_with.ensures) c.clear.ensures
    (rw c.as_slice-then-octet-eq10.ensures.value at c.put_line.ensures) (rw c.as_slice-then-octet-eq10-2.ensures.value at c.add_line.ensures)

pub returns-then-is_known : goal.returns-then-is_known
returns-then-is_known g c =
    let self = c.args.self.now in
    let kind = c.kind_of-kind.result in
    known self.lines _ self.element _ self.front.items _ c.push.new.self.items self.notes _ c.args.count c.args.octet kind c.requires c.push.ensures.items
    (c.kind_of-kind.ensures ∙ ap kind_of c.as_slice.ensures.value) c.if-octet-eq10.false (sym c.len.ensures.value ∙ c.if-is_known.true)
    (ap (λ (n : ℕ). Some (Line kind n)) c.count_with-then-is_known.ensures)
    (rw c.as_slice-then-is_known.ensures.value at c.put_begun.ensures) (rw c.as_slice-then-is_known-2.ensures.value at c.add_line-then-is_known.ensures)

pub returns-else-is_known : goal.returns-else-is_known
returns-else-is_known g c =
    let self = c.args.self.now in
    begins g.met.W.Sink.nothing self.lines self.element self.front.items c.push.new.self.items self.notes c.args.count c.args.octet c.requires c.push.ensures.items
    c.if-octet-eq10.false (λ e. c.if-is_known.false (c.len.ensures.value ∙ e))
