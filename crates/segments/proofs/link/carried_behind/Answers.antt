use Rattle.std.proofs.Common.{◌≡◌, ◌∙◌, ℕ, List, sym, ap, drop, arith}
use Rattle.byteorder.specs.Endian.{big_number}
use Rattle.segments.specs.Link.{carried_behind}
use Rattle.segments.proofs.Tags.{behind_tag}
use Rattle.segments.proofs.link.carried_behind.Goals as goal

pub loop-rest-preserved : goal.loop-rest-preserved
loop-rest-preserved c =
    let rest = c.loop-rest.rest.now in
    let kind : c.read_u16-kind.result ≡ big_number 2 (drop 2 rest) =
    c.read_u16-kind.ensures ∙ ap (λ (o : List ℕ). big_number 2 o) c.split_at.ensures.back in
    ap (λ (k : ℕ). carried_behind k c.split_at-in-loop-rest.result.1.now) kind
    ∙ ap (λ (o : List ℕ). carried_behind (big_number 2 (drop 2 rest)) o) c.split_at-in-loop-rest.ensures.back
    ∙ sym (behind_tag c.loop-rest.kind rest (sym c.is_tag.ensures ∙ c.loop-rest-test.true) (omega arith))
    ∙ c.loop-rest.invariant
