use Rattle.std.proofs.Common.{◌≡◌, ◌<◌, ◌≤◌, ◌-◌, ◌+◌, ◌∙◌, ℕ, Some, sym, ap, arith, length}
use Rattle.std.proofs.lemmas.List.{get_or_read}
use Rattle.streams.specs.Given.{extent_of, known_at, octet_of}
use Rattle.streams.proofs.Islands.{first_is, none_is, island_before, island_within}
use Rattle.streams.proofs.Known.{known_within}
use Rattle.streams.proofs.Places.{known_given, held}
use Rattle.streams.proofs.gathered.Gathered.octet_at.Goals as goal

pub returns-then-place-known : goal.returns-then-place-known
returns-then-place-known g c =
    let s = c.args.self.now in
    let within : c.args.place < length s.known.octets.items = omega (arith, c.if-place-known.true, c.known.ensures.count) in
    let known = known_within s.known.octets.items s.known.runs.items c.args.place c.requires.sound.covered within in
    ap (λ (x : ℕ). Some x) (get_or_read s.known.octets.items c.args.place c.index.result.now within c.index.ensures 0)
    ∙ sym (ap octet_of (known_given s c.args.place _ known.1))

pub returns-in_default : goal.returns-in_default
returns-in_default g c =
    let s = c.args.self.now in
    let past : length s.known.octets.items ≤ c.args.place = omega (arith, c.if-place-known.false, c.known.ensures.count) in
    sym (ap octet_of (held s c.args.place past ∙ none_is s.islands c.requires.sound.islands.ordered c.args.place c.in_default.ensures))

pub returns-then-place-first : goal.returns-then-place-first
returns-then-place-first g c =
    let s = c.args.self.now in
    let end = c.in-Some.end in
    let island = c.in-Some.island.now in
    let first = c.in-Some.ensures in
    let past : length s.known.octets.items ≤ c.args.place = omega (arith, c.if-place-known.false, c.known.ensures.count) in
    let gap : c.args.place + extent_of island < end = omega (arith, c.if-place-first.true, c.count.ensures.count) in
    sym (ap octet_of (held s c.args.place past ∙ first_is s.islands c.requires.sound.islands.ordered c.args.place end island first ∙ island_before end island c.args.place gap))

pub returns : goal.returns
returns g c =
    let s = c.args.self.now in
    let end = c.in-Some.end in
    let island = c.in-Some.island.now in
    let first = c.in-Some.ensures in
    let is = c.requires.sound.islands.each end island first.is in
    let past : length s.known.octets.items ≤ c.args.place = omega (arith, c.if-place-known.false, c.known.ensures.count) in
    let i : ℕ = c.args.place - (end - c.count.result) in
    let same : c.args.place + extent_of island - end ≡ i = omega (arith, c.if-place-first.false, c.count.ensures.count, is.fits) in
    let within : i < length island.octets.items = omega (arith, c.if-place-first.false, c.count.ensures.count, is.fits, first.after) in
    let known = known_within island.octets.items island.runs.items i is.covered within in
    ap (λ (x : ℕ). Some x) (get_or_read island.octets.items i c.index-2.result.now within c.index-2.ensures 0)
    ∙ sym (ap octet_of (held s c.args.place past
    ∙ first_is s.islands c.requires.sound.islands.ordered c.args.place end island first
    ∙ island_within end island c.args.place (omega (arith, c.if-place-first.false, c.count.ensures.count, is.fits))
    ∙ ap (λ (k : ℕ). known_at island.octets.items island.runs.items k) same
    ∙ known.1))
