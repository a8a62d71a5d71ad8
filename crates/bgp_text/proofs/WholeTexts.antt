-- A text that was put into fresh `Lines` and handed over, told by what the sink took.
use Rattle.std.proofs.Common.{◌≡◌, ◌∙◌, ◌+◌, [], ℕ, List, Result, Ok, Err, OnOk, OnErr, sym, ap, subst}
use Rattle.std.specs.Prelude.{IsTrue, IsFalse}
use Rattle.mrt.specs.declared.failure.Failed.{Failed}
use Rattle.mrt.specs.declared.sink.Sink as sinks
use Rattle.mrt.specs.Failures.{failures_after}
use Rattle.mrt.specs.Sink.{TakesBeginning}
use Rattle.bgp_text.specs.declared.lines.Lines.{Lines}
use Rattle.bgp_text.specs.Lines.{Writes}
use Rattle.bgp_text.proofs.Fresh.{IsFresh, all_taken, put_is, none_counted, one_counted}

module _ {W : Type 0} {sink : sinks.Ghosts W} (lines lines' : Lines W sink) (text : List ℕ) (fresh : IsFresh lines)
    (wrote : Writes lines lines' text) (none : lines'.held.items ≡ []) (old new : W)
    (first : lines.outlet.sink.now ≡ old) (last : new ≡ lines'.outlet.sink.now) where
  took : (taken : List ℕ) → sink.takes lines.outlet.sink.now lines'.outlet.sink.now taken → sink.takes old new taken
  took taken is =
      subst (λ (w : W). sink.takes w new taken) first (subst (λ (w : W). sink.takes lines.outlet.sink.now w taken) (sym last) is)

  pub takes_all : (result : Result Unit Failed) → OnOk result (IsFalse lines'.outlet.has_failed) → OnOk result (sink.takes old new text)
  takes_all (Ok u) calm =
      subst (λ (t : List ℕ). sink.takes old new t) (sym (all_taken lines lines' text fresh wrote none calm)) (took wrote.taken wrote.took)
  takes_all (Err e) calm = calm

  pub takes_beginning : (result : Result Unit Failed) → OnErr result (TakesBeginning sink.takes old new text)
  takes_beginning (Ok u) = tt
  takes_beginning (Err e) = record { taken = wrote.taken; rest = wrote.left; whole = put_is lines lines' text fresh wrote; took = took wrote.taken wrote.took }

  pub counts : (result : Result Unit Failed) → OnOk result (IsFalse lines'.outlet.has_failed) → OnErr result (IsTrue lines'.outlet.has_failed)
      → sink.failures new ≡ failures_after (sink.failures old) result
  counts (Ok u) calm failed = ap sink.failures last ∙ none_counted lines lines' text fresh wrote calm ∙ ap sink.failures first
  counts (Err e) calm failed = ap sink.failures last ∙ one_counted lines lines' text fresh wrote failed ∙ ap (λ (w : W). sink.failures w + 1) first
