use Rattle.std.proofs.Common.{rules}
use Rattle.std.proofs.lemmas.List.{take_min}
use Rattle.bgp_tool.proofs.front.start_of.Goals as goal

pub returns : goal.returns
returns c = let law = take_min 16 c.args.front.now in search (rules, law)
