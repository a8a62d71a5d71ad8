use Rattle.std.proofs.Common.{ap, map, subst}
use Rattle.clap.specs.Words.{App, FailsBy, HasMatchesOf, fault_of, is_simple_and_free}
use Rattle.std.specs.Prelude.{IfOk}
use Rattle.bgp_words.proofs.words.matches_of.Goals as goal

pub returns-clause-matches : goal.returns-clause-matches
returns-clause-matches g c =
    let words = map g.S.AsStr.text c.args.words.now in
    subst (λ (a : App). IfOk c.matches_by.result (HasMatchesOf a words)) c.in_ok-program.ensures c.matches_by.ensures.matches

pub returns-clause-kinds : goal.returns-clause-kinds
returns-clause-kinds g c =
    let words = map g.S.AsStr.text c.args.words.now in
    let app = c.in_ok-program.ensures in
    subst (λ (a : App). FailsBy (fault_of a words) c.matches_by.result) app (c.matches_by.ensures.kinds (ap is_simple_and_free app))
