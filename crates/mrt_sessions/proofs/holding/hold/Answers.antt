use Rattle.std.proofs.Common.{◌≡◌, ◌∙◌, ◌++◌, ◌==◌, Bool, true, false, if◌then◌else◌, List, ℕ, [], take, length, ap, sym, subst, append-nil, refl, rules}
use Rattle.mrt_sessions.proofs.holding.hold.Goals as goal

pub returns-in_default-clause-held : goal.returns-in_default-clause-held
returns-in_default-clause-held g c =
    subst (λ (o : List ℕ). g.S.Source.gives c.args.source.now c.read.new.self o) (append-nil c.loop-count.octets.items)
    (g.met.S.Source.joined c.args.source.now c.loop-count.source c.read.new.self _ _ c.loop-count.invariant.gave c.in_default.ensures.err)

pub returns-then-count-eq0-clause-held : goal.returns-then-count-eq0-clause-held
returns-then-count-eq0-clause-held g c =
    let none : take c.in-Ok.count c.read.new.buffer ≡ [] = rw c.if-count-eq0.true refl in
    let room : length c.read.new.buffer ≡ 4096 = search rules in
    let asked : (length c.read.new.buffer == 0) ≡ false = ap (λ (n : ℕ). n == 0) room in
    let given : (c.in-Ok.count == 0) ≡ true = ap (λ (n : ℕ). n == 0) c.if-count-eq0.true in (
      subst (λ (o : List ℕ). g.S.Source.gives c.args.source.now c.read.new.self o) (ap (λ (o : List ℕ). c.loop-count.octets.items ++ o) none ∙ append-nil c.loop-count.octets.items)
          (g.met.S.Source.joined c.args.source.now c.loop-count.source c.read.new.self _ _ c.loop-count.invariant.gave c.in-Ok.ensures.ok),
      c.in-Ok.ensures.end
          ∙ ap (λ (b : Bool). if b then g.S.Source.has_ended c.loop-count.source else (c.in-Ok.count == 0)) asked ∙ given,
    )

pub returns-in_default-extend_from_slice-clause-held : goal.returns-in_default-extend_from_slice-clause-held
returns-in_default-extend_from_slice-clause-held g c =
    let lost = take c.in-Ok.count c.read.new.buffer in (
      lost,
      subst (λ (o : List ℕ). g.S.Source.gives c.args.source.now c.read.new.self (o ++ lost)) (sym c.in_default-extend_from_slice.ensures.items)
          (g.met.S.Source.joined c.args.source.now c.loop-count.source c.read.new.self _ _ c.loop-count.invariant.gave c.in-Ok.ensures.ok),
    )
