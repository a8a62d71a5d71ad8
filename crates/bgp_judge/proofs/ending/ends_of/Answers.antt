use Rattle.std.proofs.Common.{◌+◌, ℕ, map, sym, ap, subst, ◌∙◌}
use Rattle.bgp_open.specs.declared.families.Families.{Families}
use Rattle.bgp_judge.specs.Ends.{end_value, place_of}
use Rattle.bgp_judge.specs.Plain.{ListsEndsBelow}
use Rattle.bgp_judge.proofs.ending.ends_of.Goals as goal

pub add_ends-requires-2 : goal.add_ends-requires-2
add_ends-requires-2 g c =
    subst (λ (n : ℕ). ListsEndsBelow n c.args.members.now (map end_value c.add_ends.new.ends.items))
    (ap (λ (f : Families). place_of f + 1) c.families.ensures ∙ sym (ap place_of c.families-2.ensures)) c.in_ok-add_ends.ensures

pub add_ends-requires-3 : goal.add_ends-requires-3
add_ends-requires-3 g c =
    subst (λ (n : ℕ). ListsEndsBelow n c.args.members.now (map end_value c.add_ends-2.new.ends.items))
    (ap (λ (f : Families). place_of f + 1) c.families-2.ensures ∙ sym (ap place_of c.families-3.ensures)) c.in_ok-add_ends-2.ensures

pub add_ends-requires-4 : goal.add_ends-requires-4
add_ends-requires-4 g c =
    subst (λ (n : ℕ). ListsEndsBelow n c.args.members.now (map end_value c.add_ends-3.new.ends.items))
    (ap (λ (f : Families). place_of f + 1) c.families-3.ensures ∙ sym (ap place_of c.families-4.ensures)) c.in_ok-add_ends-3.ensures

pub returns : goal.returns
returns g c =
    subst (λ (n : ℕ). ListsEndsBelow n c.args.members.now (map end_value c.add_ends-4.new.ends.items))
    (ap (λ (f : Families). place_of f + 1) c.families-4.ensures) c.in_ok-add_ends-4.ensures
