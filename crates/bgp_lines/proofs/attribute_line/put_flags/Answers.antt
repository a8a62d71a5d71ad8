use Rattle.std.proofs.Common.{◌++◌, ◌∙◌, List, [], ℕ, codes, decimal, subst, sym}
use Rattle.std.proofs.lemmas.Bool.{cond-true, cond-false}
use Rattle.bgp_text.specs.Lines.{Writes}
use Rattle.bgp_lines.specs.AttributeLine.{are_right_flags}
use Rattle.bgp_lines.proofs.attribute_line.put_flags.Goals as goal

pub returns-then-are_right_flags : goal.returns-then-are_right_flags
returns-then-are_right_flags g c =
    subst (λ (text : List ℕ). Writes c.args.lines.now c.put.new.self text)
    (sym (cond-true (are_right_flags c.args.bits c.args.flags) [] (codes " flags " ++ decimal c.args.flags) (sym c.are_right_flags.ensures ∙ c.if-are_right_flags.true)))
    c.put.ensures

pub returns-else-are_right_flags : goal.returns-else-are_right_flags
returns-else-are_right_flags g c =
    subst (λ (text : List ℕ). Writes c.args.lines.now c.put_some_flags.new.lines text)
    (sym (cond-false (are_right_flags c.args.bits c.args.flags) [] (codes " flags " ++ decimal c.args.flags) (sym c.are_right_flags.ensures ∙ c.if-are_right_flags.false)))
    c.put_some_flags.ensures
