-- Lines of `check` that are put in either form.
use Rattle.std.specs.Prelude.{List, ℕ}
use Rattle.mrt.specs.declared.sink.Sink as sinks
use Rattle.bgp_check_lines.specs.Teller.{PutsText}
use Rattle.bgp_check_lines.specs.declared.check_lines.CheckLines.{CheckLines}

-- a text was put, or lines that have it were told as objects
pub record PutsLines {X W : Type 0} {sink : sinks.Ghosts W} (old new : CheckLines X W sink)
    (text : List ℕ) : Type 0 where
  pub puts : PutsText old.teller new.teller old.lines new.lines text
