use Rattle.bgp_json_values.specs.Heads.{segment_head_tokens}
use Rattle.bgp_json_values.proofs.heads.put_segment_head.Goals as goal

pub piece-requires : goal.piece-requires
piece-requires g c = (segment_head_tokens c.args.kind, c.in-Some.ensures)

pub returns-in-Some : goal.returns-in-Some
returns-in-Some g c = record { ok = c.piece.ensures.tokens (segment_head_tokens c.args.kind) c.in-Some.ensures; before = c.piece.ensures.before }
