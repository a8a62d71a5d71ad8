use Rattle.std.proofs.Common.{inr}
use Rattle.bgp_compact.proofs.Alive.{fallen_there, front_there, none_there}
use Rattle.bgp_compact.proofs.SetsOfSets.{not_not}
use Rattle.bgp_compact.proofs.compact.is_alive.Goals as goal

pub returns-then-not-is_empty-clause-yes : goal.returns-then-not-is_empty-clause-yes
returns-then-not-is_empty-clause-yes c = λ t table.
    fallen_there c.args.words table (c.is_empty.ensures.no (λ z. let k : ⊥ = cc in k))

pub returns-in_default : goal.returns-in_default
returns-in_default c = record {
  yes = λ t table. front_there c.args.words table c.in_default.not-Idle (c.is_empty-in_default.ensures.no (λ z. let k : ⊥ = cc in k));
  no = λ n table m. none_there c.args.words table m (c.is_empty.ensures.yes c.if-not-is_empty.false)
      (inr (c.is_empty-in_default.ensures.yes (not_not c.is_empty-in_default.result n)));
}
