use Rattle.std.proofs.Common.{refl, subst, sym}
use Rattle.std.proofs.lemmas.List.{nil_from_length}
use Rattle.std.specs.List.{IsDistinct}
use Rattle.bgp_path.specs.LargeCommunities.{same_large_community}
use Rattle.bgp_path.proofs.Repeats.{none_are_distinct, rest_has_repeats, rest_is_distinct}
use Rattle.bgp_path.proofs.large_community.are_distinct.Goals as goal

pub returns-then-contains : goal.returns-then-contains
returns-then-contains c =
    (λ e. absurd cc, λ distinct. absurd (rest_has_repeats c.in-Some.first.now c.in-Some.others.now c.loop-first.rest.now c.args.communities.now c.in-Some.ensures.cases.0 (sym c.if-contains.ensures.value) c.loop-first.invariant distinct))

pub loop-first-preserved : goal.loop-first-preserved
loop-first-preserved c =
    rest_is_distinct c.in-Some.first.now c.in-Some.others.now c.loop-first.rest.now c.args.communities.now c.in-Some.ensures.cases.0 (sym c.if-contains.ensures.value) c.loop-first.invariant

pub returns : goal.returns
returns c =
    (λ _. c.loop-first.invariant.0 (subst (IsDistinct same_large_community) (sym (nil_from_length c.loop-first.rest.now c.in_default.ensures.cases)) none_are_distinct), λ _. refl)
