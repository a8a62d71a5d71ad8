use Rattle.std.proofs.Common.{rules, ◌≡◌, ◌<◌, ◌∙◌, ap, refl, arith, length, get_or, true, false}
use Rattle.std.proofs.Math.ListN.{length-set}
use Rattle.bgp_attr.specs.Split.{Split, attributes_of}
use Rattle.bgp_parts.proofs.Walking.{begun, first_seen, second_seen}
use Rattle.bgp_parts.proofs.update.push_attribute_parts.Goals as goal

pub loop-attr-init : goal.loop-attr-init
loop-attr-init g c =
    let all : c.new-attrs.result.attributes ≡ attributes_of c.args.field.now =
    ap (λ (s : Split). s.attributes) c.new-attrs.ensures.same in
    record { count = refl; twice_count = refl; walked = begun c.args.link.now c.args.form _ 256 256 _ _ all }

pub loop-attr-preserved-in-Continue-1 : goal.loop-attr-preserved-in-Continue-1
loop-attr-preserved-in-Continue-1 g c =
    let inside : c.index_of-index.result < length c.loop-attr.seen =
    omega (arith, c.index_of-index.ensures.below, c.loop-attr.invariant.count) in
    let new : get_or c.loop-attr.seen c.index_of-index.result false ≡ false = search rules in
    record {
      count = length-set c.loop-attr.seen c.index_of-index.result true ∙ c.loop-attr.invariant.count;
      twice_count = c.loop-attr.invariant.twice_count;
      walked = first_seen _ _ _ _ _ _ _ _ _ _ _ c.index_of-index.result c.loop-attr.invariant.walked c.in-Some.ensures.steps.0
          c.index_of-index.ensures.same inside new c.in_ok-push_first_faults.ensures;
    }

pub loop-attr-preserved-in-Continue-branch-2 : goal.loop-attr-preserved-in-Continue-branch-2
loop-attr-preserved-in-Continue-branch-2 g c =
    let inside : c.index_of-index.result < length c.loop-attr.repeated =
    omega (arith, c.index_of-index.ensures.below, c.loop-attr.invariant.twice_count) in
    let old : get_or c.loop-attr.seen c.index_of-index.result false ≡ true = search rules in
    let new : get_or c.loop-attr.repeated c.index_of-index.result false ≡ false = search rules in
    record {
      count = c.loop-attr.invariant.count;
      twice_count = length-set c.loop-attr.repeated c.index_of-index.result true ∙ c.loop-attr.invariant.twice_count;
      walked = second_seen _ _ _ _ _ _ _ _ _ _ _ c.index_of-index.result c.loop-attr.invariant.walked c.in-Some.ensures.steps.0
          c.index_of-index.ensures.same inside old new c.in_ok-push.ensures;
    }
