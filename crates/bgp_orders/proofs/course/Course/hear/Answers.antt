use Rattle.std.proofs.Common.{map, refl}
use Rattle.bgp_recording.specs.Tells.{numbered_of}
use Rattle.bgp_orders.proofs.Along.{heard_along, may_hear}
use Rattle.bgp_orders.proofs.Entries.{heard_on}
use Rattle.bgp_orders.proofs.course.Course.hear.Goals as goal

pub returns-in_default-clause-along : goal.returns-in_default-clause-along
returns-in_default-clause-along g c = λ n n2 at step.
    let s = c.args.search.now in
    absurd (c.in_default.ensures.none (may_hear s.config s.exchange c.args.self.now.spot n n2 step.0 at.stands step.1))

pub returns-clause-way : goal.returns-clause-way
returns-clause-way g c = λ t start under.
    let s = c.args.search.now in
    heard_on s.within s.exchange start c.args.self.now.spot c.in-Some.turn c.put_message.new.self.spot (map numbered_of c.args.self.now.entries.items)
    (map numbered_of c.put_message.new.self.entries.items) c.in-Some.ensures.some c.in_ok-put_message.ensures.spot c.in_ok-put_message.ensures.entries under

pub returns-clause-along : goal.returns-clause-along
returns-clause-along g c = λ n n2 at step.
    let s = c.args.search.now in (
      refl,
      heard_along s.config s.exchange c.args.self.now.spot c.in-Some.turn c.put_message.new.self.spot (map numbered_of c.args.self.now.entries.items)
          (map numbered_of c.put_message.new.self.entries.items) n n2 step.0 c.in-Some.ensures.some c.in_ok-put_message.ensures.spot c.in_ok-put_message.ensures.entries at step.1,
    )
