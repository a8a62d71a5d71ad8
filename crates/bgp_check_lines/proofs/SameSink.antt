-- Whatever is put in either form, it goes to one sink.
use Rattle.std.proofs.Common.{◌≡◌, ℕ, Bool, true, false, List}
use Rattle.mrt.specs.declared.sink.Sink as sinks
use Rattle.bgp_text.specs.declared.lines.Lines.{Lines}
use Rattle.bgp_json_check.specs.JsonVerdictsTelling.{PutsObjects}
use Rattle.bgp_check_lines.specs.Teller.{PutsText}
use Rattle.bgp_check_lines.specs.Values.{CheckValue, objects_from}
use Rattle.bgp_check_lines.specs.declared.teller.LineTeller.{LineTeller}
use Rattle.bgp_check_lines.specs.declared.teller.LineTeller.TheVariants as tellers

module _ {W : Type 0} {sink : sinks.Ghosts W} (a b : Lines W sink) where
  of_objects : (judged : ℕ) (values : List CheckValue) (x y : Bool) → PutsObjects a b (objects_from judged values) x y → b.outlet.sink.ghost_name ≡ a.outlet.sink.ghost_name
  of_objects judged values false false puts = puts.0.same_sink
  of_objects judged values false true (text, part, wrote) = wrote.same_sink
  of_objects judged values true true puts = puts.same_sink
  of_objects judged values true false puts = absurd puts

  pub same_sink : (u v : LineTeller) (text : List ℕ) → PutsText u v a b text → b.outlet.sink.ghost_name ≡ a.outlet.sink.ghost_name
  same_sink tellers.Text tellers.Text text puts = puts.same_sink
  same_sink (tellers.Json t) (tellers.Json t') text (values, is, tells) = of_objects t.judged values t.has_failed t'.has_failed tells.puts
  same_sink tellers.Text (tellers.Json t) text puts = absurd puts
  same_sink (tellers.Json t) tellers.Text text puts = absurd puts
