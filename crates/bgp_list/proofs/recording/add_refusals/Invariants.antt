use Rattle.std.proofs.Common.{◌≡◌, map, take}
use Rattle.bgp_list.specs.Firsts.{AreApart, firsts_after}
use Rattle.bgp_list.specs.Lines.{line_value, refusal_in}
use Rattle.bgp_list.proofs.recording.add_refusals.Given as goal

-- those of the lines so far are added
abbrev pub invariant-loop-line : goal.invariant-loop-line
invariant-loop-line l = record {
  added : l.refusals.items ≡ firsts_after l.fn.refusals.items (map refusal_in (map line_value (take l.line-index l.list)));
  apart : AreApart l.refusals.items;
}
