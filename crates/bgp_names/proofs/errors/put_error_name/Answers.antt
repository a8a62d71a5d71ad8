use Rattle.std.proofs.Common.{◌++◌, ◌∙◌, List, [], ℕ, codes, subst, sym}
use Rattle.std.proofs.lemmas.Bool.{cond-true, cond-false}
use Rattle.bgp_text.specs.Lines.{Writes}
use Rattle.bgp_text.proofs.Pieces.{Joins, and_then}
use Rattle.bgp_names.specs.Errors.{code_name, subcode_name, has_subcode}
use Rattle.bgp_names.proofs.errors.put_error_name.Goals as goal

pub returns-then-has_subcode : goal.returns-then-has_subcode
returns-then-has_subcode g c =
    let law : Joins g.W.Sink = record { joined = g.met.W.Sink.joined } in
    let is = sym c.has_subcode.ensures ∙ c.if-has_subcode.true in
    let behind = codes ", " ++ subcode_name c.args.code c.args.subcode in
    subst (λ (text : List ℕ). Writes c.args.lines.now c.put_subcode_name.new.lines (code_name c.args.code ++ text))
    (sym (cond-true (has_subcode c.args.code c.args.subcode) behind [] is))
    (and_then law c.put_code_name.ensures (and_then law c.put.ensures c.put_subcode_name.ensures))

pub returns-else-has_subcode : goal.returns-else-has_subcode
returns-else-has_subcode g c =
    let law : Joins g.W.Sink = record { joined = g.met.W.Sink.joined } in
    let is = sym c.has_subcode.ensures ∙ c.if-has_subcode.false in
    let behind = codes ", " ++ subcode_name c.args.code c.args.subcode in
    subst (λ (text : List ℕ). Writes c.args.lines.now c.put-else-has_subcode.new.self (code_name c.args.code ++ text))
    (sym (cond-false (has_subcode c.args.code c.args.subcode) behind [] is))
    (and_then law c.put_code_name.ensures c.put-else-has_subcode.ensures)
