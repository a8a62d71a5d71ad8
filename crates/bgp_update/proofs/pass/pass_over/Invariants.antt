use Rattle.std.proofs.Common.{◌≡◌, ◌||◌, ◌==◌, not, ℕ, false, length, get_or, is_some}
use Rattle.std.specs.List.{list_any}
use Rattle.std.specs.Option.{option_or}
use Rattle.bgp_attr.specs.declared.types.AttrType.{AttrType}
use Rattle.bgp_attr.specs.First.{first_at, first_by_type, first_of, firsts, has_repeats}
use Rattle.bgp_attr.specs.Split.{attributes_of, rest_of, tail_at}
use Rattle.bgp_update.specs.Noted.{classes_of}
use Rattle.bgp_update.proofs.Seen.{unseen, all_noted, none_noted, any_seen}
use Rattle.bgp_update.proofs.pass.pass_over.Given as goal

abbrev pub invariant-loop-attr : goal.invariant-loop-attr
invariant-loop-attr l = record {
  count : length l.seen ≡ 256;
  kept : all_noted l.side (classes_of l.classes) (unseen l.seen (firsts l.attrs.attributes)) ≡ all_noted l.side none_noted (firsts (attributes_of l.field));
  present : (k : ℕ) → (get_or l.seen k false || is_some (first_of k l.attrs.attributes)) ≡ is_some (first_of k (attributes_of l.field));
  other : (l.other || list_any (λ a. not (a.kind == 15)) l.attrs.attributes) ≡ list_any (λ a. not (a.kind == 15)) (attributes_of l.field);
  repeats : (l.has_repeats || (any_seen l.seen l.attrs.attributes || has_repeats l.attrs.attributes)) ≡ has_repeats (attributes_of l.field);
  tail : l.attrs.tail ≡ tail_at (rest_of l.field);
  first : (t : AttrType) → option_or (first_at l.first t) (first_by_type l.attrs.attributes t) ≡ option_or (first_at l.fn.first t) (first_by_type (attributes_of l.field) t);
}

abbrev pub decreases-loop-attr : goal.decreases-loop-attr
decreases-loop-attr l = length l.attrs.attributes
