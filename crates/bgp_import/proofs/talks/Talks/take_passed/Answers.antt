use Rattle.std.proofs.Common.{rules, sym}
use Rattle.streams.specs.Passed.{segment_of}
use Rattle.bgp_import.specs.Talks.{TakesSegment}
use Rattle.bgp_import.proofs.Changed.{written}
use Rattle.bgp_import.proofs.talks.Talks.take_passed.Goals as goal

pub returns-in_ok-take-in-Some-clause-ok : goal.returns-in_ok-take-in-Some-clause-ok
returns-in_ok-take-in-Some-clause-ok g c =
    written c.args.self.now c.hold.new.self _ c.args.addresses c.in_ok-hold.ensures.ok (TakesSegment (segment_of c.args.passed.now)) c.in-Some.talk.now c.take.new.self (sym c.in-Some.ensures.value)
    c.in_ok-take-in-Some.ensures ((c.get_mut.follows.holds c.take.new.self).3 (search rules))
