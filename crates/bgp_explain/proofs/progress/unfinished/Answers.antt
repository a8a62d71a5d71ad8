use Rattle.std.proofs.Common.{◌∙◌, ap, refl, subst}
use Rattle.bgp_explain.specs.Progress.{IsLast}
use Rattle.bgp_explain.proofs.progress.unfinished.Goals as goal

pub returns-clause-is : goal.returns-clause-is
returns-clause-is g c = λ records stands said.
    let last = subst (λ o. IsLast records o) c.in-Some.is said.last_message in
    let state = ap (λ t. t.state) said.told ∙ c.records_tell_one_by_one.ensures.state records in
    let same = c.as_slice-last.ensures.value ∙ last in (
      record {
        told = said.told;
        moments = said.moments;
        link = said.sending.link;
        left_out = c.left_out.ensures records said.sending.offers;
        last_message = last;
        possible = c.in-Ok.ensures.exact records stands state same;
        asked = c.in-Ok.ensures.each records stands state same;
        timely = c.expires_in_time.ensures;
      },
      refl,
    )
