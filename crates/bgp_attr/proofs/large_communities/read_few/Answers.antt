use Rattle.std.proofs.Common.{◌∙◌, arith, ap, sym}
use Rattle.bgp_path.specs.LargeCommunities.{has_large_community}
use Rattle.bgp_path.proofs.Repeats.{kept_with, none_kept}
use Rattle.bgp_attr.specs.LargeCommunities.{large_communities_in}
use Rattle.bgp_attr.proofs.LargeCommunities.{all_read, read_new, read_repeat}
use Rattle.bgp_attr.proofs.large_communities.read_few.Goals as goal

pub loop-community-init : goal.loop-community-init
loop-community-init g c =
    ap (λ kept. kept_with kept (large_communities_in c.args.octets.now)) c.in_ok-communities.ensures.items ∙ none_kept (large_communities_in c.args.octets.now)

pub loop-community-preserved-in_ok-push : goal.loop-community-preserved-in_ok-push
loop-community-preserved-in_ok-push g c =
    let kept = c.loop-community.communities.items in
    let has = ap (λ list. has_large_community list c.in-Some.community) (sym c.deref.ensures.value) ∙ sym c.if-not-contains.ensures.value in
    read_new kept c.push.new.self.items c.in-Some.community c.loop-community.rest.now c.in-Some.after.now _ c.in-Some.ensures.enough c.in-Some.ensures.community c.in-Some.ensures.rest has
    c.in_ok-push.ensures.items c.loop-community.invariant

pub loop-community-preserved : goal.loop-community-preserved
loop-community-preserved g c =
    let kept = c.loop-community.communities.items in
    let has = ap (λ list. has_large_community list c.in-Some.community) (sym c.deref.ensures.value) ∙ sym c.if-not-contains.ensures.value in
    read_repeat kept c.in-Some.community c.loop-community.rest.now c.in-Some.after.now _ c.in-Some.ensures.enough c.in-Some.ensures.community c.in-Some.ensures.rest has
    c.loop-community.invariant

pub returns : goal.returns
returns g c = all_read c.loop-community.communities.items c.loop-community.rest.now _ (omega (arith, c.in_default.ensures.none)) c.loop-community.invariant
