use Rattle.std.proofs.Common.{◌≡◌, ◌∙◌, ap, sym, subst, List, ℕ, take, length, length-append, arith}
use Rattle.std.proofs.lemmas.List.{take_all}
use Rattle.packets.specs.Context.{Packets}
use Rattle.packets.specs.Judgement.{Passed}
use Rattle.packets.proofs.Placing.{start_front, start_opened}
use Rattle.packets.proofs.reading.read_file_header.Goals as goal

pub returns-clause-ok : goal.returns-clause-ok
returns-clause-ok g c =
    let head = c.args.head.now in
    let rest = c.fill.new.buffer in
    let many : length head ≡ 12 = omega arith in
    let also : length rest ≡ 12 = c.fill.ensures.room in
    let all : take c.in_ok-filled.filled rest ≡ rest = take_all _ _ (omega arith) in
    let gave = subst (λ (o : List ℕ). g.S.Source.gives c.args.source.now c.fill.new.source o) all c.in_ok-filled.ensures.ok in
    let both = length-append head rest in (
      rest,
      gave,
      λ buffer. (
        λ more told.
            start_front c.args.magic head rest more many also
            ∙ start_opened c.args.magic head rest c.link_type_in.result (sym c.is_version_2.ensures ∙ c.if-not-is_version_2.false) c.link_type_in.ensures
            ∙ ap (λ (n : ℕ). Passed n (Packets c.args.magic c.link_type_in.result)) (omega arith),
        omega arith,
      ),
    )
