use Rattle.std.proofs.Common.{◌∙◌, ◌+◌, ap, inl, inr, refl}
use Rattle.bgp_html.specs.Noted.{Noted, noted_at}
use Rattle.bgp_report.proofs.ladders.possible_at.Goals as goal

pub returns-in-Some : goal.returns-in-Some
returns-in-Some g c = λ text are. inl (c.in-Some.ensures.some ∙ ap (λ (n : Noted). noted_at (c.args.count + 1) n) (are c.in-Some.ensures.all))

pub returns-in-None : goal.returns-in-None
returns-in-None g c = λ text are. inr refl
