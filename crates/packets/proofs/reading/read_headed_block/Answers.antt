use Rattle.std.proofs.Common.{◌≡◌, ◌∙◌, sym, [], length, arith}
use Rattle.packets.specs.Reading.{section_context}
use Rattle.packets.proofs.Exits.{ok_then, err_then}
use Rattle.packets.proofs.BlockPlaces.{without_order, of_bad_len, of_too_long, as_rest_read, as_rest_begun, context_of_other}
use Rattle.packets.proofs.reading.read_headed_block.Goals as goal

pub returns-in_default-clause-ok : goal.returns-in_default-clause-ok
returns-in_default-clause-ok g c =
    let head = c.args.head.now in
    let many : length head ≡ 12 = omega arith in (
      [],
      g.met.S.Source.nothing c.args.source.now,
      λ more told. without_order c.args.section c.args.interfaces.now head more many (sym c.in_default.is ∙ c.block_order.ensures),
      λ truncated. absurd (cc),
    )

pub returns-then-has_bad_len-clause-ok : goal.returns-then-has_bad_len-clause-ok
returns-then-has_bad_len-clause-ok g c =
    let head = c.args.head.now in
    let many : length head ≡ 12 = omega arith in
    let order = c.in-Some.order in (
      [],
      g.met.S.Source.nothing c.args.source.now,
      λ more told.
          of_bad_len c.args.section c.args.interfaces.now order head more c.block_kind-kind.result c.block_len-len.result many
          (sym c.in-Some.is ∙ c.block_order.ensures) c.block_kind-kind.ensures c.block_len-len.ensures (sym c.has_bad_len.ensures ∙ c.if-has_bad_len.true),
      λ truncated. absurd (cc),
    )

pub returns-then-is_too_long-clause-ok : goal.returns-then-is_too_long-clause-ok
returns-then-is_too_long-clause-ok g c =
    let head = c.args.head.now in
    let many : length head ≡ 12 = omega arith in
    let order = c.in-Some.order in (
      [],
      g.met.S.Source.nothing c.args.source.now,
      λ more told.
          of_too_long c.args.section c.args.interfaces.now order head more c.block_kind-kind.result c.block_len-len.result many
          (sym c.in-Some.is ∙ c.block_order.ensures) c.block_kind-kind.ensures c.block_len-len.ensures (sym c.has_bad_len.ensures ∙ c.if-has_bad_len.false)
          (sym c.is_too_long.ensures ∙ c.if-is_too_long.true),
      λ truncated. absurd (cc),
    )

pub returns-clause-ok : goal.returns-clause-ok
returns-clause-ok g c =
    let head = c.args.head.now in
    let many : length head ≡ 12 = omega arith in
    let order = c.in-Some.order in
    let kind = c.block_kind-kind.result in
    let told = sym c.in-Some.is ∙ c.block_order.ensures in
    let context = section_context c.args.section c.args.interfaces.now in
    ok_then c.read_block_rest.result _ _ (λ read made.
    let (octets, given, is) = made in
    let rest = is context (context_of_other c.args.section c.args.interfaces.now order head kind told c.block_kind-kind.ensures) in (
      octets,
      given,
      as_rest_read c.args.section c.args.interfaces.now order head octets kind c.block_len-len.result context (g.S.Source.has_ended c.read_block_rest.new.source)
          c.read_block_rest.new.buffer read many told c.block_kind-kind.ensures c.block_len-len.ensures (sym c.has_bad_len.ensures ∙ c.if-has_bad_len.false)
          (sym c.is_too_long.ensures ∙ c.if-is_too_long.false) rest,
      rest.1,
    ))
    c.read_block_rest.ensures.ok

pub returns-clause-err : goal.returns-clause-err
returns-clause-err g c =
    let head = c.args.head.now in
    let many : length head ≡ 12 = omega arith in
    err_then c.read_block_rest.result _ _ (λ made.
    let (taken, given, fewer) = made in (
      taken,
      given,
      as_rest_begun c.args.section c.args.interfaces.now c.in-Some.order head taken c.block_kind-kind.result c.block_len-len.result many
          (sym c.in-Some.is ∙ c.block_order.ensures) c.block_kind-kind.ensures c.block_len-len.ensures (sym c.has_bad_len.ensures ∙ c.if-has_bad_len.false)
          (sym c.is_too_long.ensures ∙ c.if-is_too_long.false) fewer,
    ))
    c.read_block_rest.ensures.err
