use Rattle.std.proofs.Common.{◌∙◌, ap, sym}
use Rattle.bgp_path.specs.LargeCommunities.{has_large_community}
use Rattle.bgp_path.proofs.Repeats.{kept_with, none_kept}
use Rattle.bgp_attr.specs.LargeCommunities.{large_communities_in}
use Rattle.bgp_attr.proofs.LargeCommunities.{read_new, read_repeat}
use Rattle.bgp_attr.proofs.Noted.{is_new, is_old, none_noted, noted_new, noted_old}
use Rattle.bgp_attr.proofs.large_communities.read_many.Goals as goal

pub loop-community-init : goal.loop-community-init
loop-community-init g c = (
  ap (λ kept. kept_with kept (large_communities_in c.args.octets.now)) c.in_ok-communities.ensures.items ∙ none_kept (large_communities_in c.args.octets.now),
  λ d. none_noted c.new-noted.result c.new-noted.ensures.empty d ∙ ap (λ kept. has_large_community kept d) (sym c.in_ok-communities.ensures.items),
)

pub loop-community-preserved-in_ok-push : goal.loop-community-preserved-in_ok-push
loop-community-preserved-in_ok-push g c =
    let kept = c.loop-community.communities.items in
    let noted = c.loop-community.invariant.1 in
    let has = is_new kept c.in-Some.community c.in_ok-note.field-0 (c.in_ok-note.ensures.new kept noted) c.if-branch.true in (
      read_new kept c.push.new.self.items c.in-Some.community c.loop-community.rest.now c.in-Some.after.now _ c.in-Some.ensures.enough c.in-Some.ensures.community c.in-Some.ensures.rest has
          c.in_ok-push.ensures.items c.loop-community.invariant.0,
      noted_new c.note.new.noted c.in-Some.community kept c.push.new.self.items c.in_ok-note.field-0 (c.in_ok-note.ensures.noted kept noted) c.if-branch.true c.in_ok-push.ensures.items,
    )

pub loop-community-preserved : goal.loop-community-preserved
loop-community-preserved g c =
    let kept = c.loop-community.communities.items in
    let noted = c.loop-community.invariant.1 in
    let has = is_old kept c.in-Some.community c.in_ok-note.field-0 (c.in_ok-note.ensures.new kept noted) c.if-branch.false in (
      read_repeat kept c.in-Some.community c.loop-community.rest.now c.in-Some.after.now _ c.in-Some.ensures.enough c.in-Some.ensures.community c.in-Some.ensures.rest has
          c.loop-community.invariant.0,
      noted_old c.note.new.noted c.in-Some.community kept c.in_ok-note.field-0 (c.in_ok-note.ensures.noted kept noted) c.if-branch.false,
    )
