use Rattle.std.proofs.Common.{true, false}
use Rattle.bgp_compact.proofs.SetsOfSets.{not_not}
use Rattle.bgp_compact.proofs.disabled.DisabledSets.is_empty.Goals as goal

pub returns-then-self-clause-no : goal.returns-then-self-clause-no
returns-then-self-clause-no c = λ n. (record { v4 = false; v6 = false }, c.if-self.true)

pub returns-then-self-2-clause-no : goal.returns-then-self-2-clause-no
returns-then-self-2-clause-no c = λ n. (record { v4 = true; v6 = false }, c.if-self-2.true)

pub returns-then-self-3-clause-no : goal.returns-then-self-3-clause-no
returns-then-self-3-clause-no c = λ n. (record { v4 = false; v6 = true }, c.if-self-3.true)

pub returns-clause-no : goal.returns-clause-no
returns-clause-no c = λ n. (record { v4 = true; v6 = true }, not_not c.args.self.both n)
