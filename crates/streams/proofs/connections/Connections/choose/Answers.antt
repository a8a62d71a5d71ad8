use Rattle.std.proofs.Common.{◌≡◌, ◌∙◌, ◌-◌, Some, None, refl, ap}
use Rattle.std.specs.List.{slice_get}
use Rattle.streams.specs.Connections.{numbered}
use Rattle.streams.specs.Held.{holding}
use Rattle.streams.proofs.Numbering.{each_holding}
use Rattle.streams.proofs.Choices.{answered, refused, several, missed}
use Rattle.streams.proofs.connections.Connections.choose.Goals as goal

pub returns-in_default : goal.returns-in_default
returns-in_default g c = λ segments holds.
    let n = c.unwrap_or-wanted.result in
    let gs = c.args.self.now.list.items in
    let gone : None ≡ slice_get (holding gs) (n - 1) = c.in_default.ensures ∙ ap (λ xs. slice_get (holding xs) (n - 1)) c.deref.ensures.value in
    missed c.args.number n c.args.last_packet (numbered segments) (holding gs) (each_holding _ gs holds.each) c.unwrap_or-wanted.ensures c.if-wanted-eq0.false gone

pub returns-in-Some-second : goal.returns-in-Some-second
returns-in-Some-second g c = λ segments holds.
    let gs = c.args.self.now.list.items in
    let none : c.args.number ≡ None = c.in-Some-second.ensures.named refl in
    let found : Some c.in-Some-second.second.now ≡ slice_get (holding gs) 1 = c.in-Some-second.ensures.unnamed none ∙ ap (λ xs. slice_get (holding xs) 1) c.deref-2.ensures.value in
    several c.args.number c.args.last_packet (numbered segments) (holding gs) c.in-Some-second.second.now (each_holding _ gs holds.each) none found

pub returns-in-Some-refusal : goal.returns-in-Some-refusal
returns-in-Some-refusal g c = λ segments holds.
    let n = c.unwrap_or-wanted.result in
    let gs = c.args.self.now.list.items in
    let found : Some c.in-Some.chosen.now ≡ slice_get (holding gs) (n - 1) = c.in-Some.ensures ∙ ap (λ xs. slice_get (holding xs) (n - 1)) c.deref.ensures.value in
    refused c.args.number n c.args.last_packet (numbered segments) (holding gs) c.in-Some.chosen.now c.in-Some-refusal.fault (each_holding _ gs holds.each)
    c.unwrap_or-wanted.ensures c.if-wanted-eq0.false found (λ none. c.in-None.ensures.unnamed none ∙ ap (λ xs. slice_get (holding xs) 1) c.deref-2.ensures.value) c.in-Some-refusal.ensures

pub returns-in-None-refusal : goal.returns-in-None-refusal
returns-in-None-refusal g c = λ segments holds.
    let n = c.unwrap_or-wanted.result in
    let gs = c.args.self.now.list.items in
    let found : Some c.in-Some.chosen.now ≡ slice_get (holding gs) (n - 1) = c.in-Some.ensures ∙ ap (λ xs. slice_get (holding xs) (n - 1)) c.deref.ensures.value in
    answered c.args.number n c.args.last_packet (numbered segments) (holding gs) c.in-Some.chosen.now c.told.result (each_holding _ gs holds.each)
    c.unwrap_or-wanted.ensures c.if-wanted-eq0.false found (λ none. c.in-None.ensures.unnamed none ∙ ap (λ xs. slice_get (holding xs) 1) c.deref-2.ensures.value) c.in-None-refusal.ensures c.told.ensures
