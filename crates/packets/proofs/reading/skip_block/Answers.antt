use Rattle.std.proofs.Common.{◌≡◌, ◌∙◌, ◌-◌, ◌≤◌, ap, sym, List, [], ℕ, length, drop, arith, inl, inr}
use Rattle.packets.specs.Order.{number_in}
use Rattle.packets.proofs.Endings.{end_of_rest, end_of_none, passed_over}
use Rattle.packets.proofs.reading.skip_block.Goals as goal

pub returns-then-len-clause-ok : goal.returns-then-len-clause-ok
returns-then-len-clause-ok g c =
    let len : c.args.len ≡ 12 = c.if-len.true in (
      [],
      g.met.S.Source.nothing c.args.source.now,
      passed_over c.args.order c.args.head.now c.args.len [] (g.S.Source.has_ended c.args.source.now) c.first_word.result c.then_some.result
          (sym len) (c.first_word.ensures ∙ sym (end_of_none c.args.order c.args.head.now)) c.then_some.ensures,
    )

pub returns-in-Some-clause-ok : goal.returns-in-Some-clause-ok
returns-in-Some-clause-ok g c =
    let (octets, gave, some, none) = c.in_ok-last.ensures.ok in
    let is = rw c.in-Some.is at some in
    let many : length octets ≡ c.args.len - 12 = is.0 in
    let last : drop (length octets - 4) octets ≡ c.in-Some.last = ap (λ (n : ℕ). drop (n - 4) octets) many ∙ is.1 in
    let found : c.read_u32.result ≡ number_in c.args.order 4 (drop (length octets - 4) octets) =
    c.read_u32.ensures ∙ ap (λ (o : List ℕ). number_in c.args.order 4 o) (c.as_slice.ensures ∙ sym last) in
    let long : 16 ≤ c.args.len = elim (c.requires.len) [ inl e ↦ absurd (omega (arith, e)) | inr h ↦ h ] in (
      octets,
      gave,
      passed_over c.args.order c.args.head.now c.args.len octets (g.S.Source.has_ended c.skip_to_last.new.source) c.read_u32.result c.then_some-in-Some.result
          (omega arith) (found ∙ sym (end_of_rest c.args.order c.args.head.now octets (omega arith) (omega arith))) c.then_some-in-Some.ensures,
    )
