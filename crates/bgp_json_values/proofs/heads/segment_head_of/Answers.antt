use Rattle.std.proofs.Common.{◌≡◌, ℕ, List, codes, refl, subst, sym}
use Rattle.json.specs.Print.{escape_byte}
use Rattle.json_writer.specs.Piece.{IsPiece}
use Rattle.bgp_json_values.specs.Heads.{segment_head_tokens}
use Rattle.bgp_json_values.proofs.HeadTexts.{is_segment_head}
use Rattle.bgp_json_values.proofs.heads.segment_head_of.Goals as goal

-- a text that is what segments of one type begin with is that of this type
of_type : (text : List ℕ) (kind known : ℕ) → kind ≡ known → IsPiece (segment_head_tokens known) text → IsPiece (segment_head_tokens kind) text
of_type text kind known is head = subst (λ (k : ℕ). IsPiece (segment_head_tokens k) text) (sym is) head

pub returns-in-1 : goal.returns-in-1
unfolding escape_byte
returns-in-1 c = of_type _ c.args.kind 1 c.in-1.is (is_segment_head 1 (codes "AS_SET") refl refl)

pub returns-in-2 : goal.returns-in-2
unfolding escape_byte
returns-in-2 c = of_type _ c.args.kind 2 c.in-2.is (is_segment_head 2 (codes "AS_SEQUENCE") refl refl)
