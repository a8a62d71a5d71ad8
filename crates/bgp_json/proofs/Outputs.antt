-- What is put in JSON is put in the form of JSON.
use Rattle.std.proofs.Common.{ℕ, Bool, List, Result, Ok, Err}
use Rattle.mrt.specs.declared.sink.Sink as sinks
use Rattle.bgp_text.specs.declared.lines.Lines.{Lines}
use Rattle.bgp_json.specs.Line.{PutsLine}
use Rattle.bgp_json.specs.Output.{PutsOutput}
use Rattle.bgp_json.specs.declared.output_form.OutputForm.TheVariants.{Json}

pub as_output : {E W : Type 0} {sink : sinks.Ghosts W} (as2 : Bool) (result : Result (Unit {0}) E) (old new : Lines W sink) (line : List ℕ)
    → PutsLine result old new line → PutsOutput (Json as2) result old new line
as_output as2 (Ok done) old new line puts = puts
as_output as2 (Err refused) old new line puts = (puts, tt)
