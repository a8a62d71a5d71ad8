use Rattle.std.proofs.Common.{◌<◌, ◌≤◌, ◌+◌, ◌∙◌, length, ap, arith}
use Rattle.std.specs.Option.{is_some}
use Rattle.streams.specs.Given.{extent_of}
use Rattle.streams.proofs.Islands.{covers_first, first_is, island_gives}
use Rattle.streams.proofs.Places.{known_is_given, held}
use Rattle.streams.proofs.gathered.Gathered.part_from.Goals as goal

pub returns-then-place-known-clause-given : goal.returns-then-place-known-clause-given
returns-then-place-known-clause-given g c = λ given at ge lt.
    known_is_given c.args.self.now at c.requires.sound.covered (omega (arith, lt, c.at_most.ensures.few, c.known-known.ensures.count, c.if-place-known.true))

pub returns-then-first-place-clause-given : goal.returns-then-first-place-clause-given
returns-then-first-place-clause-given g c = λ given at ge lt.
    let s = c.args.self.now in
    let end = c.in-Some.end in
    let island = c.in-Some.island.now in
    let first = c.in-Some.ensures in
    let is = c.requires.sound.islands.each end island first.is in
    let past : length s.known.octets.items ≤ at = omega (arith, ge, c.if-place-known.false, c.known-known.ensures.count) in
    let before : at < end = omega (arith, lt, c.at_most-then-first-place.ensures.few, first.after) in
    let covers : end ≤ at + extent_of island = omega (arith, ge, c.if-first-place.true, c.count.ensures.count, is.fits) in
    ap is_some (held s at past ∙ first_is s.islands c.requires.sound.islands.ordered at end island (covers_first s.islands c.requires.sound.islands at end island first.is before covers))
    ∙ island_gives end island at is covers before
