use Rattle.std.proofs.Common.{◌≡◌, ◌++◌, length, List, ℕ, drop, refl, subst, sym, ap, arith}
use Rattle.std.proofs.lemmas.List.{length-append, length-drop, drop-drop}
use Rattle.bgp_wire.specs.Framing.{IsFaulty}
use Rattle.bgp_wire.specs.Held.{Held}
use Rattle.bgp_wire.proofs.Front.{faulty_no_frame, faulty_not_short}
use Rattle.bgp_wire.proofs.frames.Frames.next.Goals as goal

pub invariant_of-self : goal.invariant_of-self
invariant_of-self g c =
    let rest = c.octets_from.ensures.rest in
    let front : drop c.self.inside.taken c.self.inside.octets.items
    ≡ c.in-Frame.frame.now ++ drop (length c.in-Frame.frame.now) (drop c.self.inside.taken c.self.inside.octets.items) =
    rw rest at c.in-Frame.ensures.2
    in (
      omega (
        arith,
        ap length front,
        length-drop c.self.inside.taken c.self.inside.octets.items,
        length-append c.in-Frame.frame.now (drop (length c.in-Frame.frame.now) (drop c.self.inside.taken c.self.inside.octets.items)),
        c.self.invariant.0,
      ),
      λ closed.
          let faulty = rw (← rest) at c.self.invariant.1 closed in
          absurd (faulty_no_frame c.self.inside.limit c.octets_from.result.now c.in-Frame.frame.now
          (drop (length c.in-Frame.frame.now) c.octets_from.result.now) faulty c.in-Frame.ensures.0 c.in-Frame.ensures.2),
    )

pub invariant_of-self-in-Fault : goal.invariant_of-self-in-Fault
invariant_of-self-in-Fault g c = (
  c.self.invariant.0,
  λ closed. subst (λ (o : List ℕ). IsFaulty c.self.inside.limit o) c.octets_from.ensures.rest c.in-Fault.ensures.0,
)

pub returns-in-Frame : goal.returns-in-Frame
returns-in-Frame g c = (
  (
    refl,
    λ _. tt,
    rw (c.in-Frame.is, ← c.self.view_is)
        (ap (λ (o : List ℕ). let h : Held = record { limit = c.self.inside.limit; octets = o; is_closed = c.self.inside.closed } in h)
        (sym (drop-drop (length c.in-Frame.frame.now) c.self.inside.taken c.self.inside.octets.items))),
  ),
  record {
    after_borrow = tt;
    first = rw (← c.self.view_is, ← c.octets_from.ensures.rest) c.first_of-next.ensures;
    again = λ closed.
        let faulty = rw (← c.octets_from.ensures.rest) at c.self.invariant.1 (rw (← c.self.view_is) at closed) in
        absurd (faulty_no_frame c.self.inside.limit c.octets_from.result.now c.in-Frame.frame.now
        (drop (length c.in-Frame.frame.now) c.octets_from.result.now) faulty c.in-Frame.ensures.0 c.in-Frame.ensures.2);
  },
)

pub returns-in-More : goal.returns-in-More
returns-in-More g c = (
  (refl, λ _. tt, rw c.in-More.is c.self.view_is),
  record {
    after_borrow = tt;
    first = rw (← c.self.view_is, ← c.octets_from.ensures.rest) c.first_of-next.ensures;
    again = λ closed.
        let faulty = rw (← c.octets_from.ensures.rest) at c.self.invariant.1 (rw (← c.self.view_is) at closed) in
        absurd (faulty_not_short c.self.inside.limit c.octets_from.result.now faulty c.in-More.ensures);
  },
)

pub returns-in-Fault : goal.returns-in-Fault
returns-in-Fault g c = (
  (refl, λ _. tt, rw (c.in-Fault.is, ← c.self.view_is) refl),
  record {
    after_borrow = tt;
    first = rw (← c.self.view_is, ← c.octets_from.ensures.rest) c.first_of-next.ensures;
    again = λ closed. rw c.in-Fault.is tt;
  },
)
