-- Text on its way to a sink: what the sink took of it, and what is held for it.
use Rattle.std.specs.Prelude.{ℕ, List}
use Rattle.mrt.specs.declared.sink.Sink as sinks
use Rattle.bgp_text.specs.declared.lines.Lines.{Lines}
use Rattle.bgp_text.specs.Outlet.{Passes}

-- a text was appended: the sink took a beginning of it, behind what was held, and the rest is held
abbrev pub Writes : {W : Type 0} {sink : sinks.Ghosts W} → Lines W sink → Lines W sink → List ℕ
    → Type 0
Writes old new text = Passes old.outlet new.outlet old.held.items text new.held.items
