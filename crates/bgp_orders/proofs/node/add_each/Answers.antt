use Rattle.std.proofs.Common.{◌≡◌, ◌++◌, ◌∷◌, [], ap, ◌∙◌, sym}
use Rattle.std.specs.Option.{option_to_list}
use Rattle.bgp_judge.specs.Chains.{bare}
use Rattle.bgp_judge.specs.Plain.{member_value}
use Rattle.bgp_orders.proofs.Steps.{all_added, emptied, none_added, one_added}
use Rattle.bgp_orders.proofs.Tidy.{adding_first, stays_on, up_to_more}
use Rattle.bgp_orders.proofs.node.add_each.Goals as goal

pub loop-member-init : goal.loop-member-init
loop-member-init g c = record {
  added = none_added c.args.made.spot c.args.made.members.items c.args.nodes.now.items;
  tidy = adding_first c.args.made.spot c.args.nodes.now.items;
}

pub loop-member-preserved : goal.loop-member-preserved
loop-member-preserved g c =
    let left = c.loop-member.members.items in
    let rest = c.pop.new.self.items in
    let x = c.in-Some.member in
    let spot = c.args.made.spot in
    let popped : left ≡ rest ++ x ∷ [] = c.pop.ensures.items ∙ ap (λ r. rest ++ option_to_list r) c.in-Some.is in
    let plain : bare (member_value c.forget_routes.new.self) ≡ member_value c.forget_routes.new.self =
    ap bare c.forget_routes.ensures ∙ sym c.forget_routes.ensures in
    record {
      added = one_added spot c.args.made.members.items left rest x c.args.nodes.now.items c.loop-member.nodes.items c.add.new.nodes.items (member_value c.forget_routes.new.self)
          popped c.forget_routes.ensures c.in_ok-add.ensures.gains c.loop-member.invariant.added;
      tidy = λ exchange tidy within each.
          let before = c.loop-member.invariant.tidy exchange tidy within each in
          stays_on exchange spot.place.received c.args.nodes.now.items c.loop-member.nodes.items c.add.new.nodes.items before
          (c.in_ok-add.ensures.tidy exchange before.tidy within plain (up_to_more exchange spot.place.received c.args.nodes.now.items c.loop-member.nodes.items each before));
    }

pub returns-clause-gains : goal.returns-clause-gains
returns-clause-gains g c = λ exchange.
    all_added c.args.made.spot c.args.made.members.items c.loop-member.members.items c.args.nodes.now.items c.loop-member.nodes.items exchange
    (emptied c.pop.result c.loop-member.members.items _ _ _ c.in_default.is c.loop-member.members.ok.0 c.pop.ensures.cases) c.loop-member.invariant.added

pub returns-clause-tidy : goal.returns-clause-tidy
returns-clause-tidy g c = c.loop-member.invariant.tidy
