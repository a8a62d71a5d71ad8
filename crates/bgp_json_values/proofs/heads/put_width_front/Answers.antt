use Rattle.std.proofs.Common.{◌≡◌, Bool, arith, codes, false, subst, sym, true}
use Rattle.json_writer.specs.Piece.{IsPiece}
use Rattle.json_writer.proofs.Dotted.{has_one}
use Rattle.bgp_json_values.specs.Heads.{head_tokens, width_tokens}
use Rattle.bgp_json_values.proofs.HeadTexts.{width_back}
use Rattle.bgp_json_values.proofs.heads.put_width_front.Goals as goal

four : (as4 : Bool) → as4 ≡ true → IsPiece (width_tokens as4) (codes "\"width\":4,\"value\":")
four as4 is = subst (λ (b : Bool). IsPiece (width_tokens b) (codes "\"width\":4,\"value\":")) (sym is) (width_back true (codes "4") (has_one 4 (omega arith)) (omega arith))

two : (as4 : Bool) → as4 ≡ false → IsPiece (width_tokens as4) (codes "\"width\":2,\"value\":")
two as4 is = subst (λ (b : Bool). IsPiece (width_tokens b) (codes "\"width\":2,\"value\":")) (sym is) (width_back false (codes "2") (has_one 2 (omega arith)) (omega arith))

pub around_u8-requires-clause-front : goal.around_u8-requires-clause-front
around_u8-requires-clause-front g c = (head_tokens c.args.kind, c.requires)

pub around_u8-requires-clause-back : goal.around_u8-requires-clause-back
around_u8-requires-clause-back g c = (width_tokens c.args.as4, four c.args.as4 c.if-as4.true)

pub returns-then-as4 : goal.returns-then-as4
returns-then-as4 g c = record { ok = c.around_u8.ensures.tokens (head_tokens c.args.kind) (width_tokens c.args.as4) c.requires (four c.args.as4 c.if-as4.true); before = c.around_u8.ensures.before }

pub around_u8-requires-else-as4-clause-front : goal.around_u8-requires-else-as4-clause-front
around_u8-requires-else-as4-clause-front g c = (head_tokens c.args.kind, c.requires)

pub around_u8-requires-else-as4-clause-back : goal.around_u8-requires-else-as4-clause-back
around_u8-requires-else-as4-clause-back g c = (width_tokens c.args.as4, two c.args.as4 c.if-as4.false)

pub returns-else-as4 : goal.returns-else-as4
returns-else-as4 g c = record { ok = c.around_u8-else-as4.ensures.tokens (head_tokens c.args.kind) (width_tokens c.args.as4) c.requires (two c.args.as4 c.if-as4.false); before = c.around_u8-else-as4.ensures.before }
