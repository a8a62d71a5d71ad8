use Rattle.std.proofs.Common.{map, take}
use Rattle.std.specs.List.{flat_map}
use Rattle.bgp_text.specs.Lines.{Writes}
use Rattle.bgp_list.specs.Lines.{line_text, line_value}
use Rattle.bgp_list.proofs.recording.put_texts.Given as goal

-- the lines so far are put
abbrev pub invariant-loop-line : goal.invariant-loop-line
invariant-loop-line g l = Writes l.fn.lines l.lines (flat_map line_text (map line_value (take l.line-index l.list)))
