-- What was put into fresh `Lines` is what their sink took, if it didn't fail.
use Rattle.std.proofs.Common.{◌≡◌, ℕ, List, [], IsFalse, subst, sym}
use Rattle.mrt.specs.declared.sink.Sink as sinks
use Rattle.bgp_text.specs.Lines.{Writes}
use Rattle.bgp_text.specs.declared.lines.Lines.{Lines}
use Rattle.bgp_text.proofs.Fresh.{IsFresh, all_taken}

pub took_all : {W : Type 0} {sink : sinks.Ghosts W} (lines lines' : Lines W sink) (first last : W) (text : List ℕ) → IsFresh lines
    → lines.outlet.sink.now ≡ first → last ≡ lines'.outlet.sink.now → Writes lines lines' text → lines'.held.items ≡ []
    → IsFalse lines'.outlet.has_failed → sink.takes first last text
took_all {W} {sink} lines lines' first last text fresh begins ends wrote none calm =
    subst (λ (t : List ℕ). sink.takes first last t) (sym (all_taken lines lines' text fresh wrote none calm))
    (subst (λ (w : W). sink.takes w last wrote.taken) begins (subst (λ (w : W). sink.takes lines.outlet.sink.now w wrote.taken) (sym ends) wrote.took))
