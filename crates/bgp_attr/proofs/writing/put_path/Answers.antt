use Rattle.std.proofs.Common.{List, ℕ, ◌≤◌, ◌+◌, ◌++◌, ◌∙◌, ap, sym, subst, length, vec_len, vec_capacity}
use Rattle.bgp_path.specs.Path.{value_of}
use Rattle.bgp_attr.proofs.Written.{octets_of_parts}
use Rattle.bgp_attr.proofs.writing.put_path.Goals as goal

pub put_attributes-requires-clause-room : goal.put_attributes-requires-clause-room
put_attributes-requires-clause-room g c =
    subst (λ (octets : List ℕ). vec_len c.args.out.now + length octets ≤ vec_capacity c.args.out.now)
    (sym (octets_of_parts c.args.side (value_of c.parts.result.now) c.args.path.now c.parts.ensures.value)) c.requires.room

pub returns-clause-items : goal.returns-clause-items
returns-clause-items g c =
    c.put_attributes.ensures.items
    ∙ ap (λ (octets : List ℕ). c.args.out.now.items ++ octets) (octets_of_parts c.args.side (value_of c.parts.result.now) c.args.path.now c.parts.ensures.value)

pub returns-clause-len : goal.returns-clause-len
returns-clause-len g c =
    c.put_attributes.ensures.len
    ∙ ap (λ (octets : List ℕ). vec_len c.args.out.now + length octets) (octets_of_parts c.args.side (value_of c.parts.result.now) c.args.path.now c.parts.ensures.value)
