use Rattle.std.proofs.Common.{◌≡◌, ◌∙◌, ◌⊎◌, ℕ, ap, arith, inl, inr, rules, sym}
use Rattle.bgp_tool.specs.Status.{code_of}
use Rattle.bgp_text.proofs.Fresh.{IsFresh}
use Rattle.bgp_text.proofs.Pieces.{Joins, and_nothing}
use Rattle.bgp_check_lines.proofs.Printed.{took_all}
use Rattle.bgp_check_lines.proofs.Explaining.{of_lines_behind, told_behind}
use Rattle.bgp_check_text.specs.Reason.{lines_text}
use Rattle.bgp_check_lines.proofs.reason.write_objects.Goals as goal

pub returns-in-Done-clause-ok : goal.returns-in-Done-clause-ok
returns-in-Done-clause-ok g c =
    let law : Joins g.W.Sink = record { joined = g.met.W.Sink.joined } in
    let fresh : IsFresh c.behind-lines.result.lines = record { empty = c.behind-lines.ensures.empty; calm = c.behind-lines.ensures.fresh } in
    elim c.finish-status.ensures.told [
      | inl calm ↦
          let (printed, are, wrote) = told_behind _ _ c.args.judged (lines_text c.args.reason.now) _ _ c.behind-lines.ensures.starts c.in_ok-put_lines.ensures.ok.puts (sym calm.1 ∙ ap code_of c.in-Done.is) in
          (printed, are, took_all c.behind-lines.result.lines c.finish-status.new.self.lines c.args.sink.now _ printed fresh c.behind-lines.ensures.now (search rules) (and_nothing law wrote c.finish-status.ensures.writes) c.finish-status.ensures.none calm.0)
      | inr broken ↦ let e : ◌≡◌ {A = ℕ} 0 5 = sym (ap code_of c.in-Done.is) ∙ broken.1 in absurd (omega (arith, e))
    ]

pub returns-in_default-clause-err : goal.returns-in_default-clause-err
returns-in_default-clause-err g c = of_lines_behind _ _ c.args.judged (lines_text c.args.reason.now) _ _ c.behind-lines.ensures.starts c.in_ok-put_lines.ensures.ok.puts
