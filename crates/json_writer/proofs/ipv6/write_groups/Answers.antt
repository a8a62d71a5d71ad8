use Rattle.std.proofs.Common.{◌≡◌, ◌++◌, ◌∷◌, List, [], ℕ, arith, get_or, sym}
use Rattle.std.specs.List.{flat_map}
use Rattle.std.proofs.lemmas.List.{nil_from_length, get_or_default}
use Rattle.std.proofs.Math.ListN.{drop_of_length-le}
use Rattle.bgp_prefix.specs.Text.{colon_text, group_text}
use Rattle.json_writer.proofs.InPlace.{none_put, then_put}
use Rattle.json_writer.proofs.Joined.{joined, one_more, none_left}
use Rattle.json_writer.proofs.ipv6.write_groups.Goals as goal

-- the groups behind the first
text_of_some : (groups others : List ℕ) (first : ℕ) → groups ≡ first ∷ others
    → group_text first ++ flat_map (λ group. 58 ∷ group_text group) others ≡ colon_text groups
unfolding colon_text
text_of_some groups others first is = rw is (sym (joined 58 group_text first others))

pub returns-in_default-clause-written : goal.returns-in_default-clause-written
unfolding colon_text
returns-in_default-clause-written c =
    let none : c.args.groups.now ≡ [] = nil_from_length c.args.groups.now (c.in_default.ensures {u = tt}).cases in
    rw none (none_put c.args.at c.args.places.now)

pub loop-group-init : goal.loop-group-init
loop-group-init c = (
  group_text c.in-Some.first.now,
  c.write_group-end.ensures.written,
  text_of_some c.args.groups.now c.in-Some.others.now c.in-Some.first.now c.in-Some.ensures.cases.0,
  omega (arith, c.write_group-end.ensures.within),
)

pub loop-group-preserved : goal.loop-group-preserved
loop-group-preserved c =
    let so_far = c.loop-group.invariant in
    let group = get_or c.in-Some.others.now c.loop-group.group-index 0 in (
      so_far.0 ++ (58 ∷ group_text group),
      then_put so_far.1 (then_put c.write_one-end.ensures.written c.write_group-end-in-loop-group.ensures.written),
      one_more (λ group. 58 ∷ group_text group) so_far.0 (colon_text c.args.groups.now) c.in-Some.others.now c.loop-group.group-index group c.loop-group-test.true (get_or_default c.in-Some.others.now c.loop-group.group-index 0 group c.loop-group-test.true) so_far.2,
      omega (arith, so_far.3, c.write_one-end.ensures.end, c.write_group-end-in-loop-group.ensures.within),
    )

pub returns-clause-written : goal.returns-clause-written
returns-clause-written c =
    let so_far = c.loop-group.invariant in
    let all : so_far.0 ≡ colon_text c.args.groups.now =
    none_left (λ group. 58 ∷ group_text group) so_far.0 (colon_text c.args.groups.now) c.in-Some.others.now c.loop-group.group-index (drop_of_length-le c.in-Some.others.now c.loop-group-test.false) so_far.2
    in
    rw all at so_far.1
