use Rattle.std.proofs.Common.{◌≡◌, ◌∙◌, ◌++◌, [], List, ℕ, ap, append_assoc, refl, subst, sym}
use Rattle.std.proofs.lemmas.List.{take-append-drop}
use Rattle.bgp_html.specs.Taking.{Puts, puts_joined, puts_nothing}
use Rattle.bgp_html.proofs.report.Report.put.Goals as goal

pub loop-rest-init : goal.loop-rest-init
loop-rest-init g c = (
  [],
  refl,
  puts_nothing g.met.W.Sink.nothing c.args.self.now.lines c.args.self.now.element c.args.self.now.front.items c.args.self.now.notes,
)

pub loop-rest-preserved : goal.loop-rest-preserved
loop-rest-preserved g c =
    let so_far = c.loop-rest.invariant in
    let first = c.args.self.now in
    let before = c.loop-rest.self in
    let after = c.put_some-count.new.self in
    let piece = c.split_at.result.0.now in
    let split : c.loop-rest.rest.now ≡ piece ++ c.split_at.result.1.now = cc (take-append-drop c.put_some-count.result c.loop-rest.rest.now) in (
      so_far.0 ++ piece,
      so_far.1 ∙ ap (λ (rest : List ℕ). so_far.0 ++ rest) split ∙ sym (append_assoc so_far.0 piece c.split_at.result.1.now),
      puts_joined g.met.W.Sink.joined first.lines before.lines after.lines first.element before.element after.element first.front.items before.front.items after.front.items
          first.notes before.notes after.notes so_far.0 piece so_far.2
          (subst (λ (os : List ℕ). Puts before.lines after.lines before.element after.element before.front.items after.front.items before.notes after.notes os)
          (sym c.split_at.ensures.front) c.put_some-count.ensures.puts),
    )
