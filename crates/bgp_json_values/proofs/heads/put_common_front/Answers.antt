use Rattle.std.proofs.Common.{◌∙◌, ◌++◌, ◌∷◌, [], Bool, codes, decimal, false, if◌then◌else◌, subst, sym, true}
use Rattle.json.specs.Token.{key, number}
use Rattle.bgp_attr.specs.Segments.{number_width}
use Rattle.bgp_json_values.specs.Adding.{Adds}
use Rattle.bgp_json_values.specs.Heads.{head_tokens}
use Rattle.bgp_json_values.specs.Objects.{members_tokens, number_of}
use Rattle.bgp_json_values.proofs.HeadTexts.{value_back}
use Rattle.bgp_json_values.proofs.heads.put_common_front.Goals as goal

pub around_u8-requires-clause-front : goal.around_u8-requires-clause-front
around_u8-requires-clause-front g c = (head_tokens c.args.kind, c.requires)

pub around_u8-requires-clause-back : goal.around_u8-requires-clause-back
around_u8-requires-clause-back g c = (key (codes "value") ∷ [], value_back)

pub returns-then-has_width : goal.returns-then-has_width
returns-then-has_width g c =
    subst (λ (test : Bool). Adds c.put_width_front.result c.args.writer.now c.put_width_front.new.writer
    (head_tokens c.args.kind ++ number (decimal c.args.flags) ∷ (members_tokens (if test then (codes "width", number_of (number_width c.args.as4)) ∷ [] else []) ++ key (codes "value") ∷ [])))
    (sym c.if-has_width.true ∙ c.has_width.ensures) c.put_width_front.ensures

pub returns-else-has_width : goal.returns-else-has_width
returns-else-has_width g c =
    subst (λ (test : Bool). Adds c.around_u8.result c.args.writer.now c.around_u8.new.self
    (head_tokens c.args.kind ++ number (decimal c.args.flags) ∷ (members_tokens (if test then (codes "width", number_of (number_width c.args.as4)) ∷ [] else []) ++ key (codes "value") ∷ [])))
    (sym c.if-has_width.false ∙ c.has_width.ensures)
    (record { ok = c.around_u8.ensures.tokens (head_tokens c.args.kind) (key (codes "value") ∷ []) c.requires value_back; before = c.around_u8.ensures.before })
