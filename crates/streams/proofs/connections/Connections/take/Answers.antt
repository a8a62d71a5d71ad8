use Rattle.std.proofs.Common.{◌≡◌, ◌<◌, ◌∙◌, Some, None, length, sym, ap, arith, refl, subst}
use Rattle.std.proofs.lemmas.List.Elements.{All-set, All-push, All-same}
use Rattle.streams.specs.Passed.{segment_of}
use Rattle.streams.specs.Connections.{last_index}
use Rattle.streams.specs.Gatherings.{AreSound}
use Rattle.streams.specs.Held.{passes}
use Rattle.streams.proofs.Connecting.{continued, begun, first_between}
use Rattle.streams.proofs.connections.Connections.take.Goals as goal
use Rattle.streams.proofs.connections.Connections.take.Goals.{in-Some+else-not-is_left_by, in_default}

pub index-requires : goal.index-requires
index-requires g c = omega (arith, c.in-Some.ensures.within, c.deref.ensures.len)

pub index_mut-requires : goal.index_mut-requires
index_mut-requires g c = omega (arith, c.in-Some.ensures.within, c.deref.ensures.len)

pub take-requires-clause-sound : goal.take-requires-clause-sound
take-requires-clause-sound g c =
    let lt : c.in-Some.last < length c.args.self.now.list.items = omega (arith, c.in-Some.ensures.within, ap length c.deref.ensures.value) in
    subst AreSound (sym c.index_mut.ensures.value) (c.requires.sound c.in-Some.last c.index_mut.result.now lt)

pub returns-then-not-is_left_by-clause-sound : goal.returns-then-not-is_left_by-clause-sound
returns-then-not-is_left_by-clause-sound g c =
    All-set AreSound c.args.self.now.list.items c.in-Some.last c.take.new.self c.in_ok-take.ensures.sound c.requires.sound

pub returns-then-not-is_left_by-clause-holds : goal.returns-then-not-is_left_by-clause-holds
returns-then-not-is_left_by-clause-holds g c = λ before holds.
    let s = segment_of c.args.passed.now in
    let gs = c.args.self.now.list.items in
    let lt : c.in-Some.last < length gs = omega (arith, c.in-Some.ensures.within, ap length c.deref.ensures.value) in
    let found : Some c.in-Some.last ≡ last_index (passes s) gs = c.in-Some.ensures.index ∙ ap (last_index (passes s)) c.deref.ensures.value in
    continued s before c.args.self.now _ c.in-Some.last c.index.result.now c.index_mut.result.now c.take.new.self holds found lt
    c.index.ensures c.index_mut.ensures.value c.if-not-is_left_by.ensures c.in_ok-take.ensures.holds c.in_ok-take.ensures.of refl

pub returns-clause-sound : goal.returns-clause-sound
returns-clause-sound g c =
    All-same AreSound c.push.new.self.items _ c.in_ok-push.ensures.items
    (All-push AreSound c.args.self.now.list.items c.take-2.new.self c.requires.sound c.in_ok-take-2.ensures.sound)

pub returns-clause-holds : goal.returns-clause-holds
returns-clause-holds g c = λ before holds.
    let s = segment_of c.args.passed.now in
    let gs = c.args.self.now.list.items in
    let value = c.deref.ensures.value in
    elim c.match-last_between.branch [
      | in-Some+else-not-is_left_by w ↦
          let lt : w.in-Some.last < length gs = omega (arith, w.in-Some.ensures.within, ap length value) in
          let found : Some w.in-Some.last ≡ last_index (passes s) gs = w.in-Some.ensures.index ∙ ap (last_index (passes s)) value in
          begun s before c.args.self.now _ w.in-Some.last w.index.result.now c.take-2.new.self holds found lt
          w.index.ensures w.if-not-is_left_by.ensures (c.in_ok-take-2.ensures.of s c.new-connection.ensures.of) (c.in_ok-take-2.ensures.holds _ c.new-connection.ensures.holds) c.in_ok-push.ensures.items
      | in_default w ↦
          let none : None ≡ last_index (passes s) gs = w.in_default.ensures.index ∙ ap (last_index (passes s)) value in
          first_between s before c.args.self.now _ c.take-2.new.self holds none
          (c.in_ok-take-2.ensures.of s c.new-connection.ensures.of) (c.in_ok-take-2.ensures.holds _ c.new-connection.ensures.holds) c.in_ok-push.ensures.items
    ]
