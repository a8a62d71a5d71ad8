use Rattle.std.proofs.Common.{◌≡◌, ◌∙◌, ◌+◌, ap, sym, subst, List, ℕ, ◌++◌, take, length, length-append, arith, None, Some}
use Rattle.std.proofs.lemmas.List.{take_all, length-take-le}
use Rattle.packets.specs.Context.{Start}
use Rattle.packets.specs.Recording.{begins_magic}
use Rattle.packets.specs.Reading.{IsInBuffer}
use Rattle.packets.proofs.Exits.{on_err, ok_then, err_then}
use Rattle.packets.proofs.Longer.{pcap_begun}
use Rattle.packets.proofs.StartPlaces.{no_magic, start_cut, starts_as, starts_begun, start_head_begun, magic_of_taken, nothing_behind}
use Rattle.packets.proofs.reading.read_start.Goals as goal

pub returns-in_err-filled-clause-err : goal.returns-in_err-filled-clause-err
returns-in_err-filled-clause-err g c =
    let (taken, given, fewer) = c.in_err-filled.ensures.err in
    let many : length c.fill.new.buffer ≡ 12 = c.fill.ensures.room in
    on_err c.from_residual.result _ (taken, given, start_head_begun taken (omega (arith, fewer)))

pub returns-then-not-begins_magic-clause-ok : goal.returns-then-not-begins_magic-clause-ok
returns-then-not-begins_magic-clause-ok g c =
    let front = c.fill.new.buffer in
    let many : length front ≡ 12 = c.fill.ensures.room in
    let octets = take c.in_ok-filled.filled front in
    let len = length-take-le c.in_ok-filled.filled front c.in_ok-filled.ensures.bound in
    let same = magic_of_taken front c.in_ok-filled.filled c.min.result c.min.ensures in (
      octets,
      c.in_ok-filled.ensures.ok,
      λ more told.
          no_magic octets more (λ few. told tt (c.in_ok-filled.ensures.ended (omega (arith, few))))
          (same ∙ sym c.begins_magic.ensures ∙ c.if-not-begins_magic.true),
      λ truncated. absurd (cc),
    )

pub returns-then-filled-lt-HEAD-clause-ok : goal.returns-then-filled-lt-HEAD-clause-ok
returns-then-filled-lt-HEAD-clause-ok g c =
    let front = c.fill.new.buffer in
    let many : length front ≡ 12 = c.fill.ensures.room in
    let octets = take c.in_ok-filled.filled front in
    let len = length-take-le c.in_ok-filled.filled front c.in_ok-filled.ensures.bound in
    let same = magic_of_taken front c.in_ok-filled.filled c.min.result c.min.ensures in (
      octets,
      c.in_ok-filled.ensures.ok,
      λ more told.
          nothing_behind octets more (told tt (c.in_ok-filled.ensures.ended (omega arith)))
          (start_cut octets (same ∙ sym c.begins_magic.ensures ∙ c.if-not-begins_magic.false) (omega arith)),
      λ truncated. c.in_ok-filled.ensures.ended (omega arith),
    )

pub returns-in-Some-clause-ok : goal.returns-in-Some-clause-ok
returns-in-Some-clause-ok g c =
    let front = c.fill.new.buffer in
    let many : length front ≡ 12 = c.fill.ensures.room in
    let all : take c.in_ok-filled.filled front ≡ front = take_all _ _ (omega arith) in
    let gave = subst (λ (o : List ℕ). g.S.Source.gives c.args.source.now c.fill.new.source o) all c.in_ok-filled.ensures.ok in
    let same = magic_of_taken front c.in_ok-filled.filled c.min.result c.min.ensures in
    let begins = ap (λ (o : List ℕ). begins_magic (take 4 o)) (sym all) ∙ same ∙ sym c.begins_magic.ensures ∙ c.if-not-begins_magic.false in
    ok_then c.read_file_header.result _ _ (λ read made.
    let (octets, given, made_of) = made in
    let (is, within) = made_of c.args.buffer.now in
    let both = length-append front octets in (
      front ++ octets,
      g.met.S.Source.joined _ _ _ _ _ gave given,
      starts_as front octets (Some c.in-Some.magic) Start (g.S.Source.has_ended c.read_file_header.new.source) c.args.buffer.now read many begins
          (sym c.in-Some.is ∙ c.magic_in.ensures) is,
      subst (λ (n : ℕ). IsInBuffer n (g.S.Source.has_ended c.read_file_header.new.source) c.args.buffer.now read)
          (let count : 12 + length octets ≡ length (front ++ octets) = omega arith in count) within,
    ))
    c.read_file_header.ensures.ok

pub returns-in-Some-clause-err : goal.returns-in-Some-clause-err
returns-in-Some-clause-err g c =
    let front = c.fill.new.buffer in
    let many : length front ≡ 12 = c.fill.ensures.room in
    let all : take c.in_ok-filled.filled front ≡ front = take_all _ _ (omega arith) in
    let gave = subst (λ (o : List ℕ). g.S.Source.gives c.args.source.now c.fill.new.source o) all c.in_ok-filled.ensures.ok in
    let same = magic_of_taken front c.in_ok-filled.filled c.min.result c.min.ensures in
    let begins = ap (λ (o : List ℕ). begins_magic (take 4 o)) (sym all) ∙ same ∙ sym c.begins_magic.ensures ∙ c.if-not-begins_magic.false in
    err_then c.read_file_header.result _ _ (λ made.
    let (taken, given, fewer) = made in (
      front ++ taken,
      g.met.S.Source.joined _ _ _ _ _ gave given,
      starts_begun front taken (Some c.in-Some.magic) many begins (sym c.in-Some.is ∙ c.magic_in.ensures) (pcap_begun c.in-Some.magic front taken many fewer),
    ))
    c.read_file_header.ensures.err

pub returns-in-None-clause-ok : goal.returns-in-None-clause-ok
returns-in-None-clause-ok g c =
    let front = c.fill.new.buffer in
    let many : length front ≡ 12 = c.fill.ensures.room in
    let all : take c.in_ok-filled.filled front ≡ front = take_all _ _ (omega arith) in
    let gave = subst (λ (o : List ℕ). g.S.Source.gives c.args.source.now c.fill.new.source o) all c.in_ok-filled.ensures.ok in
    let same = magic_of_taken front c.in_ok-filled.filled c.min.result c.min.ensures in
    let begins = ap (λ (o : List ℕ). begins_magic (take 4 o)) (sym all) ∙ same ∙ sym c.begins_magic.ensures ∙ c.if-not-begins_magic.false in
    ok_then c.read_headed_block.result _ _ (λ read made.
    let (octets, given, is, within) = made in
    let both = length-append front octets in (
      front ++ octets,
      g.met.S.Source.joined _ _ _ _ _ gave given,
      starts_as front octets None Start (g.S.Source.has_ended c.read_headed_block.new.source) c.read_headed_block.new.buffer read many begins
          (sym c.in-None.is ∙ c.magic_in.ensures) is,
      subst (λ (n : ℕ). IsInBuffer n (g.S.Source.has_ended c.read_headed_block.new.source) c.read_headed_block.new.buffer read)
          (let count : 12 + length octets ≡ length (front ++ octets) = omega arith in count) within,
    ))
    c.read_headed_block.ensures.ok

pub returns-in-None-clause-err : goal.returns-in-None-clause-err
returns-in-None-clause-err g c =
    let front = c.fill.new.buffer in
    let many : length front ≡ 12 = c.fill.ensures.room in
    let all : take c.in_ok-filled.filled front ≡ front = take_all _ _ (omega arith) in
    let gave = subst (λ (o : List ℕ). g.S.Source.gives c.args.source.now c.fill.new.source o) all c.in_ok-filled.ensures.ok in
    let same = magic_of_taken front c.in_ok-filled.filled c.min.result c.min.ensures in
    let begins = ap (λ (o : List ℕ). begins_magic (take 4 o)) (sym all) ∙ same ∙ sym c.begins_magic.ensures ∙ c.if-not-begins_magic.false in
    err_then c.read_headed_block.result _ _ (λ made.
    let (taken, given, begun) = made in
    (front ++ taken, g.met.S.Source.joined _ _ _ _ _ gave given, starts_begun front taken None many begins (sym c.in-None.is ∙ c.magic_in.ensures) begun))
    c.read_headed_block.ensures.err
