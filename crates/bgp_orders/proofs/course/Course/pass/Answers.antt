use Rattle.std.proofs.Common.{inl, inr, map, refl}
use Rattle.bgp_recording.specs.Tells.{numbered_of}
use Rattle.bgp_orders.proofs.Along.{ended_along, may_end, may_say, no_end_yet, said_along}
use Rattle.bgp_orders.proofs.Entries.{said_on, ended_on}
use Rattle.bgp_orders.proofs.course.Course.pass.Goals as goal

pub returns-in-Some-clause-way : goal.returns-in-Some-clause-way
returns-in-Some-clause-way g c = λ t start under.
    let s = c.args.search.now in
    said_on s.within s.exchange start c.args.self.now.spot c.in-Some.turn c.put_message.new.self.spot (map numbered_of c.args.self.now.entries.items)
    (map numbered_of c.put_message.new.self.entries.items) c.in-Some.ensures.some c.in_ok-put_message.ensures.spot c.in_ok-put_message.ensures.entries under

pub returns-in-Some-clause-along : goal.returns-in-Some-clause-along
returns-in-Some-clause-along g c = λ n n2 at step.
    let s = c.args.search.now in
    let spot = c.args.self.now.spot in
    elim step [
      | inl says ↦ (
        refl,
        said_along s.config s.within s.exchange spot c.in-Some.turn c.put_message.new.self.spot (map numbered_of c.args.self.now.entries.items)
            (map numbered_of c.put_message.new.self.entries.items) n n2 says.0 c.in-Some.ensures.some c.in_ok-put_message.ensures.spot c.in_ok-put_message.ensures.entries at says.1,
      )
      | inr ends ↦ absurd (no_end_yet s.config s.within s.exchange spot c.in-Some.turn n n2 ends.0 c.in-Some.ensures.some at.stands ends.1)
    ]

pub returns-in_default-ending-clause-along : goal.returns-in_default-ending-clause-along
returns-in_default-ending-clause-along g c = λ n n2 at step.
    let s = c.args.search.now in
    let spot = c.args.self.now.spot in
    elim step [
      | inl says ↦ absurd (c.in_default.ensures.none (may_say s.config s.within s.exchange spot n n2 says.0 at.stands says.1))
      | inr ends ↦ absurd (c.in_default-ending.ensures.none (may_end s.config s.within s.exchange spot n n2 ends.0 at.stands ends.1))
    ]

pub returns-clause-way : goal.returns-clause-way
returns-clause-way g c = λ t start under.
    let s = c.args.search.now in
    ended_on s.within s.exchange start c.args.self.now.spot c.in-Some-ending.ending c.put_end.new.self.spot (map numbered_of c.args.self.now.entries.items)
    (map numbered_of c.put_end.new.self.entries.items) c.in-Some-ending.ensures.some c.in_ok-put_end.ensures.spot c.in_ok-put_end.ensures.entries under

pub returns-clause-along : goal.returns-clause-along
returns-clause-along g c = λ n n2 at step.
    let s = c.args.search.now in
    let spot = c.args.self.now.spot in
    elim step [
      | inl says ↦ absurd (c.in_default.ensures.none (may_say s.config s.within s.exchange spot n n2 says.0 at.stands says.1))
      | inr ends ↦ (
        refl,
        ended_along s.config s.within s.exchange spot c.in-Some-ending.ending c.put_end.new.self.spot (map numbered_of c.args.self.now.entries.items)
            (map numbered_of c.put_end.new.self.entries.items) n n2 ends.0 c.in-Some-ending.ensures.some c.in_ok-put_end.ensures.spot c.in_ok-put_end.ensures.entries at ends.1,
      )
    ]
