-- Whatever is put in either form, it goes to one sink.
use Rattle.std.proofs.Common.{◌≡◌, ℕ, Bool, true, false, List}
use Rattle.mrt.specs.declared.sink.Sink as sinks
use Rattle.bgp_text.specs.declared.lines.Lines.{Lines}
use Rattle.bgp_json_verdicts.specs.Lines.{LineValue}
use Rattle.bgp_json_verdicts.specs.Objects.{objects_from}
use Rattle.bgp_json_verdicts.specs.Telling.{PutsObjects}
use Rattle.bgp_json_verdicts.specs.declared.telling.Counts.{Counts}
use Rattle.bgp_verdict_lines.specs.Teller.{PutsText}
use Rattle.bgp_verdict_lines.specs.declared.teller.VerdictTeller.{VerdictTeller}
use Rattle.bgp_verdict_lines.specs.declared.teller.VerdictTeller.TheVariants as tellers

module _ {W : Type 0} {sink : sinks.Ghosts W} (a b : Lines W sink) where
  of_objects : (counts : Counts) (lines : List LineValue) (x y : Bool) → PutsObjects a b (objects_from counts lines) x y → b.outlet.sink.ghost_name ≡ a.outlet.sink.ghost_name
  of_objects counts lines false false puts = puts.0.same_sink
  of_objects counts lines false true (text, part, wrote) = wrote.same_sink
  of_objects counts lines true true puts = puts.same_sink
  of_objects counts lines true false puts = absurd puts

  pub same_sink : (u v : VerdictTeller) (text : List ℕ) → PutsText u v a b text → b.outlet.sink.ghost_name ≡ a.outlet.sink.ghost_name
  same_sink tellers.Text tellers.Text text puts = puts.same_sink
  same_sink (tellers.Json t) (tellers.Json t') text (lines, is, tells) = of_objects t.counts lines t.has_failed t'.has_failed tells.puts
  same_sink tellers.Text (tellers.Json t) text puts = absurd puts
  same_sink (tellers.Json t) tellers.Text text puts = absurd puts
