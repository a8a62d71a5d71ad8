use Rattle.std.proofs.Common.{◌≡◌, ◌-◌, subst, List, ℕ, ◌++◌, take, length, length-append, arith}
use Rattle.std.proofs.lemmas.List.{take_all, length-take-le}
use Rattle.packets.proofs.Exits.{on_err}
use Rattle.packets.proofs.Placing.{behind_front}
use Rattle.packets.proofs.reading.skip_to_last.Goals as goal

pub returns-in_err-fill-clause-err : goal.returns-in_err-fill-clause-err
returns-in_err-fill-clause-err g c =
    let (passed, gave, all) = c.in_ok-pass_over.ensures.passed in
    let (taken, given, fewer) = c.in_err-fill.ensures.err in
    let skipped : length passed ≡ c.args.count - 4 = rw c.if-not-branch.false at all in
    let both = length-append passed taken in
    let room : length c.fill.new.buffer ≡ 4 = c.fill.ensures.room in
    on_err c.from_residual-in_err-fill.result _ (passed ++ taken, g.met.S.Source.joined _ _ _ _ _ gave given, omega (arith, skipped))

pub returns-then-branch-lt4-clause-ok : goal.returns-then-branch-lt4-clause-ok
returns-then-branch-lt4-clause-ok g c =
    let (passed, gave, is) = c.in_ok-pass_over.ensures.passed in
    let all = rw c.if-not-branch.false at is in
    let last = take c.in_ok-fill.field-0 c.fill.new.buffer in
    let len = length-take-le c.in_ok-fill.field-0 c.fill.new.buffer c.in_ok-fill.ensures.bound in
    let both = length-append passed last in
    let room : length c.fill.new.buffer ≡ 4 = c.fill.ensures.room in (
      passed ++ last,
      g.met.S.Source.joined _ _ _ _ _ gave c.in_ok-fill.ensures.ok,
      tt,
      (omega (arith, all), c.in_ok-fill.ensures.ended (omega arith)),
    )

pub returns-clause-ok : goal.returns-clause-ok
returns-clause-ok g c =
    let (passed, gave, is) = c.in_ok-pass_over.ensures.passed in
    let skipped : length passed ≡ c.args.count - 4 = rw c.if-not-branch.false at is in
    let last = c.fill.new.buffer in
    let room : length last ≡ 4 = c.fill.ensures.room in
    let all : take c.in_ok-fill.field-0 last ≡ last = take_all _ _ (omega arith) in
    let given = subst (λ (o : List ℕ). g.S.Source.gives c.pass_over.new.source c.fill.new.source o) all c.in_ok-fill.ensures.ok in
    let both = length-append passed last in (
      passed ++ last,
      g.met.S.Source.joined _ _ _ _ _ gave given,
      (omega (arith, skipped), behind_front passed last (c.args.count - 4) skipped),
      tt,
    )
