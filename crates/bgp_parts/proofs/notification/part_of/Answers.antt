use Rattle.std.proofs.Common.{rules, IsTrue, refl, sym, ◌∙◌}
use Rattle.bgp_parts.proofs.PossibleNotifications.{named_with_some_data, never, told_at_some_second, told_of}
use Rattle.bgp_parts.proofs.notification.part_of.Goals as goal

pub returns-then-is_of_data : goal.returns-then-is_of_data
returns-then-is_of_data c =
    told_at_some_second c.args.possible.now _ _ _ (c.is_of_data.ensures.0 c.if-is_of_data.true)

pub returns : goal.returns
returns c =
    let has : IsTrue c.is_of_subcode.result = search rules in (
      refl,
      named_with_some_data c.args.possible.now _ _ (c.is_of_subcode.ensures.0 has),
      λ may. never (sym c.if-is_of_data.false ∙ c.is_of_data.ensures.1 (told_of c.args.possible.now _ _ _ may)),
    )
