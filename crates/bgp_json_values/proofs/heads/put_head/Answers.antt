use Rattle.bgp_json_values.specs.Heads.{head_tokens}
use Rattle.bgp_json_values.proofs.heads.put_head.Goals as goal

pub piece-requires : goal.piece-requires
piece-requires g c = (head_tokens c.args.kind, c.in-Some.ensures)

pub returns-in-Some : goal.returns-in-Some
returns-in-Some g c = record { ok = c.piece.ensures.tokens (head_tokens c.args.kind) c.in-Some.ensures; before = c.piece.ensures.before }
