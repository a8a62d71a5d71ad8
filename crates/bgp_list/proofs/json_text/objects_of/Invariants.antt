use Rattle.std.proofs.Common.{map, take}
use Rattle.bgp_list.specs.Forms.{line_json}
use Rattle.bgp_list.specs.Lines.{line_value}
use Rattle.bgp_list.specs.Objects.{AreObjects}
use Rattle.bgp_list.proofs.json_text.objects_of.Given as goal

-- the objects of the lines so far
abbrev pub invariant-loop-line : goal.invariant-loop-line
invariant-loop-line g l = AreObjects l.text.items (map (λ line. line_json (line_value line)) (take l.line-index l.list))
