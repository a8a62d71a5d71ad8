use Rattle.std.proofs.Common.{◌∙◌, length, refl, sym}
use Rattle.std.proofs.lemmas.Bool.{eq-eqb, eqb-true}
use Rattle.bgp_wire.specs.Verdict.{type_code}
use Rattle.bgp_machine.specs.Want.{limit_on}
use Rattle.bgp_why.proofs.WholeMessage.{whole, of_whole, not_whole}
use Rattle.bgp_why.proofs.lacks.is_whole.Goals as goal

pub returns-in-Faulty : goal.returns-in-Faulty
returns-in-Faulty c =
    let verdict = rw c.sent_limit.ensures at c.in-Faulty.ensures.verdict in
    let none = not_whole c.args.octets.now c.in-Some.header.now c.in-Some.ensures.some (limit_on c.args.link) (type_code c.args.kind) verdict.0 in
    (λ e. absurd cc, λ is. absurd (none is))

pub returns-then-is_as_long : goal.returns-then-is_as_long
returns-then-is_as_long c =
    let octets = c.args.octets.now in
    let header = c.in-Some.header.now in
    let verdict = rw c.sent_limit.ensures at c.in-Whole.ensures.verdict in (
      λ e. whole octets header c.in-Some.ensures.some (limit_on c.args.link) c.in-Whole.count (type_code c.in-Whole.found) (type_code c.args.kind)
          (c.in-Some.ensures.whole.0 refl) verdict.0 verdict.1 verdict.2 (c.if-is_as_long.true ∙ c.from.ensures)
          (sym c.code.ensures ∙ eqb-true c.code.result c.code-in-Whole.result e ∙ c.code-in-Whole.ensures),
      λ is.
          let of = of_whole octets header c.in-Some.ensures.some (limit_on c.args.link) c.in-Whole.count (type_code c.in-Whole.found) (type_code c.args.kind) verdict.1 verdict.2 is in
          eq-eqb c.code.result c.code-in-Whole.result (c.code.ensures ∙ of.1 ∙ sym c.code-in-Whole.ensures),
    )

pub returns-else-is_as_long : goal.returns-else-is_as_long
returns-else-is_as_long c =
    let octets = c.args.octets.now in
    let header = c.in-Some.header.now in
    let verdict = rw c.sent_limit.ensures at c.in-Whole.ensures.verdict in (
      λ e. absurd (c.if-is_as_long.false (eqb-true (length octets) c.from.result e)),
      λ is.
          let of = of_whole octets header c.in-Some.ensures.some (limit_on c.args.link) c.in-Whole.count (type_code c.in-Whole.found) (type_code c.args.kind) verdict.1 verdict.2 is in
          absurd (c.if-is_as_long.false (of.0 ∙ sym c.from.ensures)),
    )
