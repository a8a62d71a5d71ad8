use Rattle.std.proofs.Common.{rules, sym}
use Rattle.bgp_import.specs.Talks.{IsRefusedBy}
use Rattle.bgp_import.proofs.Changed.{written}
use Rattle.bgp_import.proofs.talks.Talks.refuse.Goals as goal

pub returns-in-Some-clause-ok : goal.returns-in-Some-clause-ok
returns-in-Some-clause-ok g c =
    written c.args.self.now c.hold.new.self _ c.args.addresses c.in_ok-hold.ensures.ok (IsRefusedBy c.args.fault c.args.packet) c.in-Some.talk.now c.refuse.new.self (sym c.in-Some.ensures.value)
    c.refuse.ensures ((c.get_mut.follows.holds c.refuse.new.self).3 (search rules))
