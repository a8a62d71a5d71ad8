use Rattle.std.proofs.Common.{◌∙◌, Some, arith, sym}
use Rattle.bgp_list.proofs.Apart.{has_room, one_apart}
use Rattle.bgp_list.proofs.firsts.add_first.Goals as goal

pub push-requires : goal.push-requires
push-requires c = (
  omega arith,
  has_room c.args.refusals.now.items (Some c.in-Some.found) c.requires
      (rw (c.as_slice.ensures.value, c.number.ensures) at (sym c.has_number.ensures ∙ c.if-not-has_number.true)),
)

pub returns-then-not-has_number-clause-apart : goal.returns-then-not-has_number-clause-apart
returns-then-not-has_number-clause-apart c =
    rw c.push.ensures.items
    (one_apart c.args.refusals.now.items (Some c.in-Some.found) c.requires
    (rw (c.as_slice.ensures.value, c.number.ensures) at (sym c.has_number.ensures ∙ c.if-not-has_number.true)))
