use Rattle.std.proofs.Common.{◌≡◌, ◌∙◌, ap, sym, refl, List, ℕ, ◌++◌, take, length, length-append, arith, inl, inr}
use Rattle.std.proofs.lemmas.List.{take_all, length-take-le}
use Rattle.packets.specs.declared.blocks.BlockKind.TheVariants as blocks
use Rattle.packets.specs.declared.fault.FaultKind.TheVariants as kinds
use Rattle.packets.specs.Order.{number_in}
use Rattle.packets.proofs.Exits.{on_err}
use Rattle.packets.proofs.Endings.{section_end}
use Rattle.packets.proofs.BlockPlaces.{refused_rest, section_read, version_read, number_front}
use Rattle.packets.proofs.reading.read_section.Goals as goal

pub returns-in_err-last-clause-err : goal.returns-in_err-last-clause-err
returns-in_err-last-clause-err g c =
    let version = take c.in_ok-fill.field-0 c.fill.new.buffer in
    let (taken, given, fewer) = c.in_err-last.ensures.err in
    let len = length-take-le c.in_ok-fill.field-0 c.fill.new.buffer c.in_ok-fill.ensures.bound in
    let both = length-append version taken in
    let room : length c.fill.new.buffer ≡ 4 = c.fill.ensures.room in
    let bound = c.in_ok-fill.ensures.bound in
    on_err c.from_residual-in_err-last.result _ (version ++ taken, g.met.S.Source.joined _ _ _ _ _ c.in_ok-fill.ensures.ok given, omega (arith, fewer))

pub returns-then-branch-lt4-clause-ok : goal.returns-then-branch-lt4-clause-ok
returns-then-branch-lt4-clause-ok g c =
    let version = take c.in_ok-fill.field-0 c.fill.new.buffer in
    let len = length-take-le c.in_ok-fill.field-0 c.fill.new.buffer c.in_ok-fill.ensures.bound in
    let room : length c.fill.new.buffer ≡ 4 = c.fill.ensures.room in (
      version,
      c.in_ok-fill.ensures.ok,
      λ interfaces context.
          refused_rest c.args.order interfaces blocks.Section c.args.len c.args.head.now context version (g.S.Source.has_ended c.fill.new.source) c.args.buffer.now kinds.Truncated
          (inl (refl, omega arith, c.in_ok-fill.ensures.ended (omega arith))),
    )

pub returns-in_default-clause-ok : goal.returns-in_default-clause-ok
returns-in_default-clause-ok g c =
    let version = take c.in_ok-fill.field-0 c.fill.new.buffer in
    let len = length-take-le c.in_ok-fill.field-0 c.fill.new.buffer c.in_ok-fill.ensures.bound in
    let room : length c.fill.new.buffer ≡ 4 = c.fill.ensures.room in
    let (octets, given, some, none) = c.in_ok-last.ensures.ok in
    let cut = rw c.in_default.is at none in
    let both = length-append version octets in
    let bound = c.in_ok-fill.ensures.bound in (
      version ++ octets,
      g.met.S.Source.joined _ _ _ _ _ c.in_ok-fill.ensures.ok given,
      λ interfaces context.
          refused_rest c.args.order interfaces blocks.Section c.args.len c.args.head.now context (version ++ octets) (g.S.Source.has_ended c.skip_to_last.new.source)
          c.skip_to_last.new.buffer kinds.Truncated (inl (refl, omega (arith, cut.0), cut.1)),
    )

pub returns-then-read_u32-len-clause-ok : goal.returns-then-read_u32-len-clause-ok
returns-then-read_u32-len-clause-ok g c =
    let version = take c.in_ok-fill.field-0 c.fill.new.buffer in
    let len = length-take-le c.in_ok-fill.field-0 c.fill.new.buffer c.in_ok-fill.ensures.bound in
    let room : length c.fill.new.buffer ≡ 4 = c.fill.ensures.room in
    let bound = c.in_ok-fill.ensures.bound in
    let (octets, given, some, none) = c.in_ok-last.ensures.ok in
    let is = rw c.in-Some.is at some in
    let ends =
    section_end c.args.order c.args.head.now version octets c.in-Some.last c.args.len c.read_u32.result (omega arith) (omega arith) c.requires.len is.0 is.1
    (c.read_u32.ensures ∙ ap (λ (o : List ℕ). number_in c.args.order 4 o) c.as_slice.ensures) in (
      version ++ octets,
      g.met.S.Source.joined _ _ _ _ _ c.in_ok-fill.ensures.ok given,
      λ interfaces context.
          refused_rest c.args.order interfaces blocks.Section c.args.len c.args.head.now context (version ++ octets) (g.S.Source.has_ended c.skip_to_last.new.source)
          c.skip_to_last.new.buffer kinds.Block (inr (refl, ends.0, λ e. c.if-read_u32-len.true (ends.1 ∙ e))),
    )

pub returns-then-read_u16-ne1-clause-ok : goal.returns-then-read_u16-ne1-clause-ok
returns-then-read_u16-ne1-clause-ok g c =
    let version = take c.in_ok-fill.field-0 c.fill.new.buffer in
    let len = length-take-le c.in_ok-fill.field-0 c.fill.new.buffer c.in_ok-fill.ensures.bound in
    let room : length c.fill.new.buffer ≡ 4 = c.fill.ensures.room in
    let bound = c.in_ok-fill.ensures.bound in
    let all : version ≡ c.fill.new.buffer = take_all _ _ (omega arith) in
    let (octets, given, some, none) = c.in_ok-last.ensures.ok in
    let is = rw c.in-Some.is at some in
    let ends =
    section_end c.args.order c.args.head.now version octets c.in-Some.last c.args.len c.read_u32.result (omega arith) (omega arith) c.requires.len is.0 is.1
    (c.read_u32.ensures ∙ ap (λ (o : List ℕ). number_in c.args.order 4 o) c.as_slice.ensures) in
    let told : c.read_u16.result ≡ number_in c.args.order 2 (version ++ octets) =
    c.read_u16.ensures ∙ ap (λ (o : List ℕ). number_in c.args.order 2 o) (c.as_slice-2.ensures ∙ sym all) ∙ sym (number_front c.args.order version octets (omega arith)) in (
      version ++ octets,
      g.met.S.Source.joined _ _ _ _ _ c.in_ok-fill.ensures.ok given,
      λ interfaces context.
          version_read c.args.order interfaces c.args.len c.args.head.now context (version ++ octets) (g.S.Source.has_ended c.skip_to_last.new.source) c.skip_to_last.new.buffer
          (ends.0, sym ends.1 ∙ c.if-read_u32-len.false) (λ e. c.if-read_u16-ne1.true (told ∙ e)),
    )

pub returns-clause-ok : goal.returns-clause-ok
returns-clause-ok g c =
    let version = take c.in_ok-fill.field-0 c.fill.new.buffer in
    let len = length-take-le c.in_ok-fill.field-0 c.fill.new.buffer c.in_ok-fill.ensures.bound in
    let room : length c.fill.new.buffer ≡ 4 = c.fill.ensures.room in
    let bound = c.in_ok-fill.ensures.bound in
    let all : version ≡ c.fill.new.buffer = take_all _ _ (omega arith) in
    let (octets, given, some, none) = c.in_ok-last.ensures.ok in
    let is = rw c.in-Some.is at some in
    let ends =
    section_end c.args.order c.args.head.now version octets c.in-Some.last c.args.len c.read_u32.result (omega arith) (omega arith) c.requires.len is.0 is.1
    (c.read_u32.ensures ∙ ap (λ (o : List ℕ). number_in c.args.order 4 o) c.as_slice.ensures) in
    let told : c.read_u16.result ≡ number_in c.args.order 2 (version ++ octets) =
    c.read_u16.ensures ∙ ap (λ (o : List ℕ). number_in c.args.order 2 o) (c.as_slice-2.ensures ∙ sym all) ∙ sym (number_front c.args.order version octets (omega arith)) in (
      version ++ octets,
      g.met.S.Source.joined _ _ _ _ _ c.in_ok-fill.ensures.ok given,
      λ interfaces context.
          section_read c.args.order interfaces c.args.len c.args.head.now context (version ++ octets) (g.S.Source.has_ended c.skip_to_last.new.source) c.skip_to_last.new.buffer
          (ends.0, sym ends.1 ∙ c.if-read_u32-len.false) (sym told ∙ c.if-read_u16-ne1.false),
    )
