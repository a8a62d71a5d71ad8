use Rattle.std.proofs.Common.{◌≡◌, ◌∙◌, ◌++◌, ◌∷◌, get_or, codes}
use Rattle.std.proofs.Math.ListN.{drop_of_length-le}
use Rattle.std.proofs.lemmas.List.{get_or_default}
use Rattle.std.specs.List.{flat_map}
use Rattle.bgp_path.specs.declared.large_community.LargeCommunity.{LargeCommunity}
use Rattle.bgp_path.specs.LargeCommunities.{large_community_text}
use Rattle.bgp_text.proofs.Joined.{one_more, none_left}
use Rattle.bgp_text.proofs.ListTexts.{nothing_listed, some_listed}
use Rattle.bgp_text.proofs.Pieces.{Joins, and_then, nothing_yet}
use Rattle.bgp_text.proofs.routes.put_large.Goals as goal

pub returns-then-is_empty : goal.returns-then-is_empty
returns-then-is_empty g c =
    rw (← nothing_listed (codes " large") large_community_text c.args.values.now c.if-is_empty.ensures)
    (nothing_yet g.W.Sink g.met.W.Sink.nothing c.args.lines.now.outlet c.args.lines.now.held.items)

pub loop-value-preserved : goal.loop-value-preserved
loop-value-preserved g c =
    let law : Joins g.W.Sink = record { joined = g.met.W.Sink.joined } in
    let so_far = c.loop-value.invariant in
    let none : LargeCommunity = record { global_administrator = 0; local_data_part_1 = 0; local_data_part_2 = 0 } in
    let value = get_or c.args.values.now c.loop-value.value-index none in
    let whole = codes " large" ++ flat_map (λ v. 32 ∷ large_community_text v) c.args.values.now in (
      so_far.0 ++ (32 ∷ large_community_text value),
      and_then law so_far.1 (and_then law c.put-in-loop-value.ensures c.put_large_community.ensures),
      one_more (λ v. 32 ∷ large_community_text v) so_far.0 whole c.args.values.now c.loop-value.value-index value c.loop-value-test.true (get_or_default c.args.values.now c.loop-value.value-index none value c.loop-value-test.true) so_far.2,
    )

pub returns : goal.returns
returns g c =
    let so_far = c.loop-value.invariant in
    let whole = codes " large" ++ flat_map (λ v. 32 ∷ large_community_text v) c.args.values.now in
    let all : so_far.0 ≡ whole =
    none_left (λ v. 32 ∷ large_community_text v) so_far.0 whole c.args.values.now c.loop-value.value-index (drop_of_length-le c.args.values.now c.loop-value-test.false) so_far.2
    in
    rw (all ∙ some_listed (codes " large") large_community_text c.args.values.now c.if-is_empty.ensures) at so_far.1
