use Rattle.std.proofs.Common.{◌≡◌, ◌<◌, ◌+◌, ◌-◌, ◌∙◌, ℕ, zero, suc, List, ◌∷◌, drop, sym, ap, arith}
use Rattle.std.specs.List.{slice_get}
use Rattle.streams.specs.Held.{holding}
use Rattle.streams.proofs.Numbering.{holding_here, holding_after}
use Rattle.streams.proofs.connections.nth_holding.Goals as goal
use Rattle.streams.proofs.connections.nth_holding.Goals.{then-it+else-left-eq0, else-it}

skip : {X : Type 0} (x : X) (xs : List X) (n : ℕ) → 0 < n → slice_get (x ∷ xs) n ≡ slice_get xs (n - 1)
skip x xs zero h = absurd (omega arith)
skip x xs (suc n) h = ap (slice_get xs) (omega arith)

pub loop-it-preserved : goal.loop-it-preserved
loop-it-preserved g c =
    let xs = c.args.list.now in
    let i = c.loop-it.it-index in
    elim c.if-it.branch [
      | then-it+else-left-eq0 w ↦
          let more : 0 < c.loop-it.left = omega arith in
          ap (slice_get (holding (drop (i + 1) xs))) w.left-is
          ∙ sym (skip c.it-item.result (holding (drop (i + 1) xs)) c.loop-it.left more)
          ∙ ap (λ gs. slice_get gs c.loop-it.left) (sym (holding_here xs i c.it-item.result c.loop-it-test.true c.it-item.is w.if-it.true))
          ∙ c.loop-it.invariant
      | else-it w ↦
          ap (slice_get (holding (drop (i + 1) xs))) w.left-is
          ∙ ap (λ gs. slice_get gs c.loop-it.left) (sym (holding_after xs i c.it-item.result c.loop-it-test.true c.it-item.is w.if-it.false))
          ∙ c.loop-it.invariant
    ]
