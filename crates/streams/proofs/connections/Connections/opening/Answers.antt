use Rattle.std.proofs.Common.{◌≡◌, ◌∙◌, ◌-◌, ◌≤◌, Some, None, length, ap, arith, inr}
use Rattle.std.specs.List.{slice_get}
use Rattle.streams.specs.Connections.{numbered}
use Rattle.streams.specs.Held.{holding}
use Rattle.streams.proofs.Numbering.{each_holding}
use Rattle.streams.proofs.Choices.{held_at, held_none}
use Rattle.streams.proofs.Choosing.{opens_is}
use Rattle.streams.proofs.connections.Connections.opening.Goals as goal

pub returns-in-Some : goal.returns-in-Some
returns-in-Some g c = λ segments holds.
    let n = c.args.number in
    let gs = c.args.self.now.list.items in
    let found : Some c.in-Some.one.now ≡ slice_get (holding gs) (n - 1) = c.in-Some.ensures ∙ ap (λ xs. slice_get (holding xs) (n - 1)) c.deref.ensures.value in
    let held = held_at (numbered segments) (holding gs) (n - 1) c.in-Some.one.now (each_holding _ gs holds.each) found in
    (c.opening.ensures.number, opens_is n _ c.in-Some.one.now c.opening.result held.0 c.opening.ensures)

pub returns-in-None : goal.returns-in-None
returns-in-None g c = λ segments holds.
    let n = c.args.number in
    let gs = c.args.self.now.list.items in
    let gone : None ≡ slice_get (holding gs) (n - 1) = c.in-None.ensures ∙ ap (λ xs. slice_get (holding xs) (n - 1)) c.deref.ensures.value in
    let past : length (numbered segments) ≤ n - 1 = held_none (numbered segments) (holding gs) (n - 1) (each_holding _ gs holds.each) gone in
    inr (omega arith)
