use Rattle.std.proofs.Common.{◌≡◌, drop}
use Rattle.bgp_why.specs.Deed.{message_due}
use Rattle.bgp_why.proofs.OnlyOne.{one_in}
use Rattle.bgp_why.proofs.cause.message_due.Given as goal

-- what is found and the items that are left have the same one message as all
abbrev pub invariant-loop-item : goal.invariant-loop-item
invariant-loop-item l = one_in l.found (drop l.item-index l.item-items) ≡ message_due l.fn.possible
