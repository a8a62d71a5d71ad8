use Rattle.std.proofs.Common.{List, ◌≡◌, ◌<◌, ◌==◌, ◌∙◌, ap, refl, not, arith, length, true}
use Rattle.std.proofs.Math.ListN.{set, length-set}
use Rattle.std.specs.Option.{option_or}
use Rattle.bgp_attr.proofs.FirstNoted.{noted}
use Rattle.bgp_attr.specs.Field.{Attribute}
use Rattle.bgp_attr.specs.First.{first_at, first_by_type, firsts}
use Rattle.bgp_attr.specs.Split.{Split, attributes_of}
use Rattle.bgp_update.specs.Found.{ClassesFound}
use Rattle.bgp_update.specs.Noted.{classes_of}
use Rattle.bgp_update.proofs.Seen.{unseen, all_noted, none_noted, none_seen, pass_seen, pass_new, pass_done}
use Rattle.bgp_update.proofs.Seen.{set_marks, old_marks, present_init, present_step, repeats_init, repeats_new, repeats_seen, flag_init, flag_step}
use Rattle.bgp_update.proofs.pass.pass_over.Goals as goal

pub loop-attr-init : goal.loop-attr-init
loop-attr-init c =
    let all : c.new-attrs.result.attributes ≡ attributes_of c.args.field.now =
    ap (λ (s : Split). s.attributes) c.new-attrs.ensures.same in
    record {
      count = refl;
      kept = ap (all_noted c.args.side none_noted) (none_seen 256 _ ∙ ap firsts all);
      present = present_init 256 _ _ all;
      other = flag_init (λ a. not (a.kind == 15)) _ _ all;
      repeats = repeats_init 256 _ _ all;
      tail = ap (λ (s : Split). s.tail) c.new-attrs.ensures.same;
      first = λ t. ap (λ (l : List Attribute). option_or (first_at c.args.first.now t) (first_by_type l t)) all;
    }

pub loop-attr-preserved-then-seen-index : goal.loop-attr-preserved-then-seen-index
loop-attr-preserved-then-seen-index c =
    let rest = c.next.new.self.attributes in
    let here = c.in-Some.ensures.steps.0 in
    let m = old_marks c.loop-attr.seen c.index_of-index.result _ c.index_of-index.ensures.same c.if-seen-index.true in
    record {
      count = c.loop-attr.invariant.count;
      kept = pass_seen c.args.side (classes_of c.loop-attr.classes) _ c.loop-attr.seen c.loop-attr.attrs.attributes _ rest c.index_of-index.result c.index_of-index.ensures.same here c.if-seen-index.true c.loop-attr.invariant.kept;
      present = present_step _ _ _ _ _ _ m here c.loop-attr.invariant.present;
      other = flag_step (λ a. not (a.kind == 15)) c.loop-attr.other _ _ _ (attributes_of c.args.field.now) here c.loop-attr.invariant.other;
      repeats = repeats_seen _ c.loop-attr.seen c.loop-attr.has_repeats _ _ _ (attributes_of c.args.field.now) m.here here c.loop-attr.invariant.repeats;
      tail = c.in-Some.ensures.steps.1 ∙ c.loop-attr.invariant.tail;
      first = λ t. noted (first_at c.loop-attr.first) (first_at c.note.new.self) _ _ rest t _ here (c.note.ensures.next t) (c.loop-attr.invariant.first t);
    }

pub loop-attr-preserved : goal.loop-attr-preserved
loop-attr-preserved c =
    let rest = c.next.new.self.attributes in
    let here = c.in-Some.ensures.steps.0 in
    let inside : c.index_of-index.result < length c.loop-attr.seen = omega (arith, c.index_of-index.ensures.below, c.loop-attr.invariant.count) in
    let m = set_marks c.loop-attr.seen c.index_of-index.result _ c.index_of-index.ensures.same inside in
    record {
      count = length-set c.loop-attr.seen c.index_of-index.result true ∙ c.loop-attr.invariant.count;
      kept = ap (λ (f : ClassesFound). all_noted c.args.side f (unseen (set c.loop-attr.seen c.index_of-index.result true) (firsts rest))) c.noted-classes.ensures
          ∙ pass_new c.args.side (classes_of c.loop-attr.classes) _ c.loop-attr.seen c.loop-attr.attrs.attributes _ rest c.index_of-index.result c.index_of-index.ensures.same here c.if-seen-index.false inside c.loop-attr.invariant.kept;
      present = present_step _ _ _ _ _ _ m here c.loop-attr.invariant.present;
      other = flag_step (λ a. not (a.kind == 15)) c.loop-attr.other _ _ _ (attributes_of c.args.field.now) here c.loop-attr.invariant.other;
      repeats = repeats_new _ _ c.loop-attr.has_repeats _ _ _ (attributes_of c.args.field.now) m (rw c.index_of-index.ensures.same at c.if-seen-index.false) here c.loop-attr.invariant.repeats;
      tail = c.in-Some.ensures.steps.1 ∙ c.loop-attr.invariant.tail;
      first = λ t. noted (first_at c.loop-attr.first) (first_at c.note.new.self) _ _ rest t _ here (c.note.ensures.next t) (c.loop-attr.invariant.first t);
    }

pub returns-clause-classes : goal.returns-clause-classes
returns-clause-classes c = pass_done c.args.side (classes_of c.loop-attr.classes) c.loop-attr.seen c.loop-attr.attrs.attributes (attributes_of c.args.field.now) c.in_default.ensures.steps.0 c.loop-attr.invariant.kept
