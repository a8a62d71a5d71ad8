-- A text that was put into fresh `Lines`, told by what the sink took.
use Rattle.std.proofs.Common.{◌≡◌, ◌∙◌, ◌++◌, ◌+◌, [], ℕ, List, Bool, true, false, sym, ap, subst, append-nil}
use Rattle.mrt.specs.declared.sink.Sink as sinks
use Rattle.bgp_text.specs.declared.lines.Lines.{Lines}
use Rattle.bgp_text.specs.Outlet.{IsKept}
use Rattle.bgp_text.specs.Lines.{Writes}

-- a text of which nothing is written yet
pub record IsFresh {W : Type 0} {sink : sinks.Ghosts W} (lines : Lines W sink) : Type 0 where
  pub empty : lines.held.items ≡ []
  pub calm : lines.outlet.has_failed ≡ false

module _ {W : Type 0} {sink : sinks.Ghosts W} (lines lines' : Lines W sink) (text : List ℕ) (fresh : IsFresh lines)
    (wrote : Writes lines lines' text) where
  -- whether the sink failed is told
  kept_by : (y : Bool) → lines'.outlet.has_failed ≡ y
      → IsKept sink.failures lines.outlet.sink.now lines'.outlet.sink.now wrote.left lines'.held.items false y
  kept_by y told =
      subst (λ (x : Bool). IsKept sink.failures lines.outlet.sink.now lines'.outlet.sink.now wrote.left lines'.held.items x y) fresh.calm
      (subst (λ (z : Bool). IsKept sink.failures lines.outlet.sink.now lines'.outlet.sink.now wrote.left lines'.held.items lines.outlet.has_failed z)
      told wrote.kept)

  -- what was put is what was taken, and what is left
  pub put_is : text ≡ wrote.taken ++ wrote.left
  put_is = sym (ap (λ (held : List ℕ). held ++ text) fresh.empty) ∙ wrote.whole

  -- nothing is left, if it didn't fail
  pub nothing_left : lines'.held.items ≡ [] → lines'.outlet.has_failed ≡ false → wrote.left ≡ []
  nothing_left none calm = (kept_by false calm).0 ∙ none

  -- the sink took all, if it didn't fail
  pub all_taken : lines'.held.items ≡ [] → lines'.outlet.has_failed ≡ false → text ≡ wrote.taken
  all_taken none calm =
      put_is ∙ ap (λ (left : List ℕ). wrote.taken ++ left) ((kept_by false calm).0 ∙ none) ∙ append-nil wrote.taken

  -- the sink's count, by whether it failed
  pub none_counted : lines'.outlet.has_failed ≡ false → sink.failures lines'.outlet.sink.now ≡ sink.failures lines.outlet.sink.now
  none_counted calm = (kept_by false calm).1

  pub one_counted : lines'.outlet.has_failed ≡ true → sink.failures lines'.outlet.sink.now ≡ sink.failures lines.outlet.sink.now + 1
  one_counted failed = kept_by true failed
