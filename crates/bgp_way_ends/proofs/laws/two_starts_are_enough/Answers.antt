use Rattle.bgp_way_ends.proofs.FromAny.{decide, end_all, explain_all}
use Rattle.bgp_way_ends.proofs.laws.two_starts_are_enough.Goals as goal

pub returns : goal.returns
returns c =
    let explained = explain_all c.a_member_is_reached.ensures.begins in
    let ends = end_all c.a_member_is_reached.ensures.ends in
    record { explained = explained; ends = ends; verdict = decide explained ends }
