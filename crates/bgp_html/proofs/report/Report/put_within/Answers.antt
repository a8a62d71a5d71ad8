use Rattle.std.proofs.Common.{◌≡◌, ◌∙◌, ◌<◌, ◌+◌, ◌++◌, ◌∷◌, [], ℕ, List, ap, arith, length, subst, sym, take}
use Rattle.bgp_html.specs.Taking.{HasNoEnd, Puts, first_end, puts_joined}
use Rattle.bgp_html.proofs.Steps.{end_next, none_before}
use Rattle.bgp_html.proofs.report.Report.put_within.Goals as goal

pub put_rest-requires-clause-none : goal.put_rest-requires-clause-none
put_rest-requires-clause-none g c =
    let octets = c.args.octets.now in
    subst (λ (os : List ℕ). HasNoEnd os) (sym c.split_at.ensures.front)
    (subst (λ (n : ℕ). HasNoEnd (take n octets)) (sym c.first_end-end.ensures.value) (none_before octets))

pub returns-else-end-octets-clause-puts : goal.returns-else-end-octets-clause-puts
returns-else-end-octets-clause-puts g c =
    let octets = c.args.octets.now in
    let end = c.first_end-end.result in
    let value : end ≡ first_end octets = c.first_end-end.ensures.value in
    let within = c.first_end-end.ensures.within in
    let other = c.if-end-octets.false in
    let some : first_end octets < length octets = omega (arith, value, within, other) in
    let piece = c.split_at.result.0.now in
    let line : take (end + 1) octets ≡ piece ++ 10 ∷ [] =
    ap (λ (n : ℕ). take (n + 1) octets) value ∙ end_next octets some ∙ ap (λ (n : ℕ). take n octets ++ 10 ∷ []) (sym value)
    ∙ ap (λ (os : List ℕ). os ++ 10 ∷ []) (sym c.split_at.ensures.front) in
    let first = c.args.self.now in
    let then_on = c.put_rest.new.self in
    let last = c.end_line.new.self in
    subst (λ (os : List ℕ). Puts first.lines last.lines first.element last.element first.front.items last.front.items first.notes last.notes os) (sym line)
    (puts_joined g.met.W.Sink.joined first.lines then_on.lines last.lines first.element then_on.element last.element first.front.items then_on.front.items last.front.items
    first.notes then_on.notes last.notes piece (10 ∷ []) c.put_rest.ensures.puts c.end_line.ensures)
