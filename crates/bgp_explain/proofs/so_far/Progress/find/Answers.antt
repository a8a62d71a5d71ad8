use Rattle.std.proofs.Common.{◌∙◌, ℕ, ◌+◌, ap, subst}
use Rattle.bgp_explain.specs.Progress.{IsLast}
use Rattle.bgp_explain.proofs.so_far.Progress.find.Goals as goal

pub returns-clause-found : goal.returns-clause-found
returns-clause-found g c = λ records stands is.
    let state = ap (λ t. t.state) is.told ∙ c.records_tell_one_by_one.ensures.state records in
    let last = c.as_slice.ensures.value ∙ subst (λ o. IsLast records o) c.in-Some.is is.last_message in record {
      number = ap (λ (n : ℕ). n + 1) is.count;
      kept = c.in-Ok-copy_of.ensures;
      possible = c.in-Ok.ensures.exact records stands state last;
      asked = c.in-Ok.ensures.each records stands state last;
      timely = c.expires_in_time.ensures;
    }
