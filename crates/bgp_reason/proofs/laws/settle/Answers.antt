use Rattle.bgp_judge.proofs.Receiving.{not_reset, worked_out}
use Rattle.bgp_reason.proofs.laws.settle.Goals as goal

pub returns-in-Ok : goal.returns-in-Ok
returns-in-Ok g c = λ none. none (worked_out c.args.link.now c.args.octets.now c.in-Ok.outcomes c.in-Ok.ensures.exact c.some_outcome.ensures.some)

pub returns-in_default : goal.returns-in_default
returns-in_default g c =
    not_reset c.args.link.now c.args.octets.now c.some_outcome.ensures.some (λ only. let k = c.in_default.ensures.memory only in absurd cc)
