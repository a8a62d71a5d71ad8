use Rattle.std.proofs.Common.{◌≡◌, ◌++◌, ◌∷◌, List, [], ℕ, sym, get_or}
use Rattle.std.specs.List.{flat_map}
use Rattle.std.proofs.lemmas.List.{nil_from_length, get_or_default}
use Rattle.std.proofs.Math.ListN.{drop_of_length-le}
use Rattle.bgp_prefix.specs.Text.{colon_text, group_text}
use Rattle.bgp_text.proofs.Joined.{joined, one_more, none_left}
use Rattle.bgp_text.proofs.Pieces.{Joins, and_then, nothing_yet}
use Rattle.bgp_text.proofs.addresses.put_groups.Goals as goal

-- the groups behind the first
text_of_some : (groups others : List ℕ) (first : ℕ) → groups ≡ first ∷ others
    → group_text first ++ flat_map (λ group. 58 ∷ group_text group) others ≡ colon_text groups
unfolding colon_text
text_of_some groups others first is = rw is (sym (joined 58 group_text first others))

pub returns-in_default : goal.returns-in_default
unfolding colon_text
returns-in_default g c =
    let none : c.args.groups.now ≡ [] = nil_from_length c.args.groups.now (c.in_default.ensures {u = tt}).cases in
    rw none (nothing_yet g.W.Sink g.met.W.Sink.nothing c.args.lines.now.outlet c.args.lines.now.held.items)

pub loop-group-init : goal.loop-group-init
loop-group-init g c = (group_text c.in-Some.first.now, c.put_group.ensures, text_of_some c.args.groups.now c.in-Some.others.now c.in-Some.first.now c.in-Some.ensures.cases.0)

pub loop-group-preserved : goal.loop-group-preserved
loop-group-preserved g c =
    let law : Joins g.W.Sink = record { joined = g.met.W.Sink.joined } in
    let so_far = c.loop-group.invariant in
    let group = get_or c.in-Some.others.now c.loop-group.group-index 0 in (
      so_far.0 ++ (58 ∷ group_text group),
      and_then law so_far.1 (and_then law c.put.ensures c.put_group-in-loop-group.ensures),
      one_more (λ group. 58 ∷ group_text group) so_far.0 (colon_text c.args.groups.now) c.in-Some.others.now c.loop-group.group-index group c.loop-group-test.true (get_or_default c.in-Some.others.now c.loop-group.group-index 0 group c.loop-group-test.true) so_far.2,
    )

pub returns : goal.returns
returns g c =
    let so_far = c.loop-group.invariant in
    let all : so_far.0 ≡ colon_text c.args.groups.now =
    none_left (λ group. 58 ∷ group_text group) so_far.0 (colon_text c.args.groups.now) c.in-Some.others.now c.loop-group.group-index (drop_of_length-le c.in-Some.others.now c.loop-group-test.false) so_far.2
    in
    rw all at so_far.1
