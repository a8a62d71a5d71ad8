use Rattle.std.proofs.Common.{◌≡◌, subst, ap, List, ℕ, ◌++◌, take, arith, rules}
use Rattle.std.proofs.lemmas.List.{take_all}
use Rattle.mrt.specs.Layout.{Header, IsBgp4mp}
use Rattle.mrt.proofs.Places.{long_body, begun_other, begun_body}
use Rattle.mrt.proofs.Exits.{ok_then, err_then}
use Rattle.mrt.proofs.reading.read_record.Goals as goal

pub returns-then-not-is_bgp4mp-clause-ok : goal.returns-then-not-is_bgp4mp-clause-ok
returns-then-not-is_bgp4mp-clause-ok g c =
    let front = c.fill.new.buffer in
    let all : take c.in_ok-filled.filled front ≡ front = take_all _ _ (omega (arith, c.fill.ensures.room)) in
    let gave = subst (λ (o : List ℕ). g.S.Source.gives c.args.source.now c.fill.new.source o) all c.in_ok-filled.ensures.ok in
    ok_then c.skip_body.result _ _ (λ read made.
    let (body, given, is) = made in
    (front ++ body, g.met.S.Source.joined _ _ _ _ _ gave given, is c.args.session.now c.args.last front (omega (arith, c.fill.ensures.room)) c.read_header-header.ensures))
    c.skip_body.ensures.ok

pub returns-then-not-is_bgp4mp-clause-err : goal.returns-then-not-is_bgp4mp-clause-err
returns-then-not-is_bgp4mp-clause-err g c =
    let front = c.fill.new.buffer in
    let all : take c.in_ok-filled.filled front ≡ front = take_all _ _ (omega (arith, c.fill.ensures.room)) in
    let gave = subst (λ (o : List ℕ). g.S.Source.gives c.args.source.now c.fill.new.source o) all c.in_ok-filled.ensures.ok in
    err_then c.skip_body.result _ _ (λ made.
    let (body, given, fewer) = made in
    let count = ap (λ (h : Header). h.count) c.read_header-header.ensures in (
      front ++ body,
      g.met.S.Source.joined _ _ _ _ _ gave given,
      begun_other c.args.session.now front body (omega (arith, c.fill.ensures.room))
          (subst (λ (h : Header). ¬ IsBgp4mp h.kind) c.read_header-header.ensures (search rules)) (omega arith),
    ))
    c.skip_body.ensures.err

pub returns-then-header-body_limit-clause-ok : goal.returns-then-header-body_limit-clause-ok
returns-then-header-body_limit-clause-ok g c =
    let front = c.fill.new.buffer in
    let all : take c.in_ok-filled.filled front ≡ front = take_all _ _ (omega (arith, c.fill.ensures.room)) in
    let gave = subst (λ (o : List ℕ). g.S.Source.gives c.args.source.now c.fill.new.source o) all c.in_ok-filled.ensures.ok in
    let count = ap (λ (h : Header). h.count) c.read_header-header.ensures in
    let judged = λ (more : List ℕ). long_body c.args.session.now c.args.last front more (omega (arith, c.fill.ensures.room))
    (subst (λ (h : Header). IsBgp4mp h.kind) c.read_header-header.ensures (c.is_bgp4mp.ensures.0 c.if-not-is_bgp4mp.false)) (omega (arith, c.body_limit.ensures.limit)) in
    (front, gave, λ more none. search (judged))

pub returns-clause-ok : goal.returns-clause-ok
returns-clause-ok g c =
    let front = c.fill.new.buffer in
    let all : take c.in_ok-filled.filled front ≡ front = take_all _ _ (omega (arith, c.fill.ensures.room)) in
    let gave = subst (λ (o : List ℕ). g.S.Source.gives c.args.source.now c.fill.new.source o) all c.in_ok-filled.ensures.ok in
    ok_then c.read_body.result _ _ (λ read made.
    let (body, given, is) = made in
    (front ++ body, g.met.S.Source.joined _ _ _ _ _ gave given, is front (omega (arith, c.fill.ensures.room)) c.read_header-header.ensures))
    c.read_body.ensures.ok

pub returns-clause-err : goal.returns-clause-err
returns-clause-err g c =
    let front = c.fill.new.buffer in
    let all : take c.in_ok-filled.filled front ≡ front = take_all _ _ (omega (arith, c.fill.ensures.room)) in
    let gave = subst (λ (o : List ℕ). g.S.Source.gives c.args.source.now c.fill.new.source o) all c.in_ok-filled.ensures.ok in
    err_then c.read_body.result _ _ (λ made.
    let (body, given, fewer) = made in
    let count = ap (λ (h : Header). h.count) c.read_header-header.ensures in
    (front ++ body, g.met.S.Source.joined _ _ _ _ _ gave given, begun_body c.args.session.now front body (omega (arith, c.fill.ensures.room)) (omega (arith, c.body_limit.ensures.limit)) (omega arith)))
    c.read_body.ensures.err
