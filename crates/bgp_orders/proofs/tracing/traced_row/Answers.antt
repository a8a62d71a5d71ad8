use Rattle.std.proofs.Common.{◌≡◌, ◌+◌, ℕ, arith, inl, inr, length, subst}
use Rattle.std.proofs.lemmas.Bool.{cases_lt}
use Rattle.bgp_orders.specs.declared.course.Step.TheVariants as step
use Rattle.bgp_orders.specs.declared.tracing.Origin.TheVariants as origin
use Rattle.bgp_orders.specs.Tracks.{AreNoted}
use Rattle.bgp_orders.proofs.Rows.{all_grown}
use Rattle.bgp_orders.proofs.Tracks.{heard_traced, nothing_traced, passed_traced}
use Rattle.bgp_orders.proofs.tracing.traced_row.Goals as goal

pub loop-passed-init : goal.loop-passed-init
loop-passed-init g c =
    let s = c.args.search.now in
    nothing_traced s.config s.within s.exchange c.args.row.now c.args.before c.args.first.items c.args.base c.args.origins.now.items c.requires.first c.requires.row

pub returns-then-len-gt-MOST_NODES-clause-many : goal.returns-then-len-gt-MOST_NODES-clause-many
returns-then-len-gt-MOST_NODES-clause-many g c = λ row first each.
    let so_far = c.loop-passed.invariant in
    let ends = so_far.to.ends in
    elim (cases_lt 1048576 c.args.base) [
      | inl lt ↦ inr lt
      | inr ge ↦ inl (
        c.loop-passed.next.items,
        (so_far.grows.tidy row first each).tidy,
        omega (arith, ge, ends, c.len-in-loop-passed.ensures, c.loop-passed.origins.ok.0, c.if-len-gt-MOST_NODES.true),
        so_far.grows.grows.sound,
      )
    ]

pub loop-passed-preserved-then-is_passed_next : goal.loop-passed-preserved-then-is_passed_next
loop-passed-preserved-then-is_passed_next g c =
    let s = c.args.search.now in
    let next = c.pass_one.new.next in
    let count : c.len-then-is_passed_next.result ≡ length next.items = omega (arith, c.len-then-is_passed_next.ensures, next.ok.0) in
    let noted : AreNoted c.loop-passed.origins.items c.note.new.origins.items c.args.base (length next.items) (origin.Behind step.Pass (c.args.before + c.loop-passed.passed)) =
    subst (λ (v : ℕ). AreNoted c.loop-passed.origins.items c.note.new.origins.items c.args.base v (origin.Behind step.Pass (c.args.before + c.loop-passed.passed))) count c.in_ok-note.ensures in
    passed_traced s.config s.within s.exchange c.args.row.now c.args.before c.args.first.items c.args.base c.loop-passed.passed c.loop-passed.heard c.loop-passed.origins.items c.note.new.origins.items
    c.as_slice-nodes.result.now c.loop-passed.next.items next.items c.is_passed_next.result c.requires.behind c.loop-passed.invariant c.as_slice-nodes.ensures.value
    (c.is_passed_next.ensures.passed c.if-is_passed_next.true) c.is_passed_next.ensures.fewer c.if-is_passed_next.true c.in_ok-pass_one.ensures.gains c.in_ok-pass_one.ensures.tidy noted

pub loop-passed-preserved : goal.loop-passed-preserved
loop-passed-preserved g c =
    let s = c.args.search.now in
    let next = c.add_made.new.nodes in
    let count : c.len-else-is_passed_next.result ≡ length next.items = omega (arith, c.len-else-is_passed_next.ensures, next.ok.0) in
    let noted : AreNoted c.loop-passed.origins.items c.note-else-is_passed_next.new.origins.items c.args.base (length next.items) (origin.Behind step.Receive (c.args.base + c.loop-passed.heard)) =
    subst (λ (v : ℕ). AreNoted c.loop-passed.origins.items c.note-else-is_passed_next.new.origins.items c.args.base v (origin.Behind step.Receive (c.args.base + c.loop-passed.heard))) count c.in_ok-note-2.ensures in
    heard_traced s.config s.within s.exchange c.args.row.now c.args.before c.args.first.items c.args.base c.loop-passed.passed c.loop-passed.heard c.loop-passed.origins.items
    c.note-else-is_passed_next.new.origins.items c.as_slice-nodes.result.now c.loop-passed.next.items next.items c.in_ok-made.made c.is_passed_next.result c.loop-passed.invariant c.as_slice-nodes.ensures.value
    (c.is_passed_next.ensures.heard c.if-is_passed_next.false) c.is_passed_next.ensures.fewer c.if-is_passed_next.false c.in_ok-made.ensures.made (c.in_ok-add_made.ensures.gains s.exchange)
    c.in_ok-made.ensures.stands (c.in_ok-add_made.ensures.tidy s.exchange) noted

pub returns-clause-row : goal.returns-clause-row
returns-clause-row g c =
    let s = c.args.search.now in
    all_grown s.config s.within s.exchange c.args.row.now c.args.first.items c.loop-passed.passed c.loop-passed.heard c.loop-passed.next.items c.loop-passed.invariant.grows.grows
    (omega (arith, c.if-passed-row.false)) (omega (arith, c.if-heard-len.false, c.len.ensures, c.loop-passed.next.ok.0))

pub returns-clause-many : goal.returns-clause-many
returns-clause-many g c = λ row first each. (c.loop-passed.invariant.grows.tidy row first each).tidy

pub returns-clause-trail : goal.returns-clause-trail
returns-clause-trail g c = c.loop-passed.invariant.to
