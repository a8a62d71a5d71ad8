use Rattle.std.proofs.Common.{◌≡◌, ◌≤◌, ◌+◌, ◌∙◌, ◌⊎◌, ℕ, length, ap, arith, inl, inr, refl}
use Rattle.std.specs.Option.{option_or}
use Rattle.streams.specs.declared.stretch.Stretch.{Stretch}
use Rattle.streams.specs.Given.{given_at, piece_at, extent_of}
use Rattle.streams.specs.Islands.{EndsAt}
use Rattle.streams.proofs.Holding.{given_appended}
use Rattle.streams.proofs.gathered.Gathered.put_part.Goals as goal

pub absorb-requires-clause-from : goal.absorb-requires-clause-from
absorb-requires-clause-from g c = λ end island is.
    let after = c.requires.sound.hole end island is in
    elim (c.requires.free.islands end island is) [
      | inl le ↦ absurd (omega (arith, le, after, c.if-place-known.false, c.known.ensures.count))
      | inr past ↦ omega (arith, past, c.requires.free.known, c.in_ok-append.ensures.octets)
    ]

pub returns-clause-given : goal.returns-clause-given
returns-clause-given g c = λ at.
    let now = c.args.self.now in
    let same : length now.known.octets.items ≡ c.args.place = omega (arith, c.requires.free.known, c.if-place-known.false, c.known.ensures.count) in
    let free : (end : ℕ) (island : Stretch _) → EndsAt now.islands end island
    → (end ≤ length now.known.octets.items) ⊎ (length now.known.octets.items + length c.args.octets.now + extent_of island ≤ end) =
    λ end island is. elim (c.requires.free.islands end island is) [
      | inl le ↦ inl (omega (arith, le, same))
      | inr past ↦ inr (omega (arith, past, same))
    ] in
    c.in_ok-absorb.ensures.given at
    ∙ given_appended now _ c.args.octets.now c.args.giver refl c.requires.sound.islands free c.in_ok-append.ensures.known at
    ∙ ap (λ (k : ℕ). option_or (given_at now at) (piece_at k c.args.octets.now c.args.giver at)) same

pub returns-clause-size : goal.returns-clause-size
returns-clause-size g c = omega (arith, c.in_ok-absorb.ensures.size, c.in_ok-append.ensures.octets)
