use Rattle.std.proofs.Common.{◌≡◌, ◌∙◌, ℕ, ◌+◌, List, length, sym, ap, subst, arith}
use Rattle.std.proofs.lemmas.Result.{err_from_is_err_and}
use Rattle.bgp_prefix.specs.Shown.{ShownRecord, second_of}
use Rattle.bgp_prefix.specs.declared.session.Session.{Session}
use Rattle.mrt.specs.Sink.{TakesBeginning}
use Rattle.mrt.specs.Reader.{shown_of}
use Rattle.mrt.specs.Written.{header_octets, number_octets, address_octets, content_for, subtype_for, body_octets}
use Rattle.mrt.proofs.Exits.{err_then, done_then}
use Rattle.mrt.proofs.Parts.{begins_first, begins_behind}
use Rattle.mrt.proofs.BodyLimit.{is_bounded}
use Rattle.mrt.proofs.WrittenBody.{body_is, length-body}
use Rattle.mrt.proofs.writer.write_parts.Goals as goal

header_is : (session : Session) (pa la : ℕ) (shown : ShownRecord) (header : List ℕ) (second subtype content count : ℕ) → header ≡ header_octets second subtype count
    → second ≡ second_of shown → subtype ≡ subtype_for shown → content ≡ length (content_for shown)
    → count ≡ 12 + (length (address_octets session.peer) + (length (address_octets session.local) + content))
    → header ≡ header_octets (second_of shown) (subtype_for shown) (length (body_octets session pa la shown))
header_is session pa la shown header second subtype content count is s t n counted =
    let len = length-body session pa la shown in
    is
    ∙ ap (λ (x : ℕ). header_octets x subtype count) s ∙ ap (λ (x : ℕ). header_octets (second_of shown) x count) t
    ∙ ap (λ (x : ℕ). header_octets (second_of shown) (subtype_for shown) x) (let same : count ≡ length (body_octets session pa la shown) = omega arith in same)

pub count_of-count-requires : goal.count_of-count-requires
count_of-count-requires g c = omega (arith, is_bounded c.args.session.now, c.requires.short, c.parts_of-second.ensures.count)

pub returns-in_err-write_all-clause-err : goal.returns-in_err-write_all-clause-err
returns-in_err-write_all-clause-err g c =
    let p = err_from_is_err_and c.from_residual.result c.from_residual.ensures.1 in
    let head = header_is c.args.session.now c.args.peer_as c.args.local_as (shown_of c.args.shown.now) c.header_of.result _ _ _ _ c.header_of.ensures
    c.parts_of-second.ensures.second c.parts_of-second.ensures.subtype c.parts_of-second.ensures.count c.count_of-count.ensures in
    rw (p.1) (begins_first _ g.met.W.Sink.joined _ _ _ _
    (subst (λ (o : List ℕ). TakesBeginning g.W.Sink.takes c.args.sink.now c.write_all.new.sink o) head c.in_err-write_all.ensures.err))

pub returns-in_err-write_all-2-clause-err : goal.returns-in_err-write_all-2-clause-err
returns-in_err-write_all-2-clause-err g c =
    let p = err_from_is_err_and c.from_residual-in_err-write_all-2.result c.from_residual-in_err-write_all-2.ensures.1 in
    let head = header_is c.args.session.now c.args.peer_as c.args.local_as (shown_of c.args.shown.now) c.header_of.result _ _ _ _ c.header_of.ensures
    c.parts_of-second.ensures.second c.parts_of-second.ensures.subtype c.parts_of-second.ensures.count c.count_of-count.ensures in
    let numbers = c.numbers_of.ensures ∙ ap (λ (afi : ℕ). number_octets c.args.peer_as c.args.local_as afi) c.afi_of.ensures in
    rw (p.1) (begins_behind _ g.met.W.Sink.joined _ _ _ _ _
    (subst (λ (o : List ℕ). g.W.Sink.takes c.args.sink.now c.write_all.new.sink o) head c.in_ok-write_all.ensures.ok)
    (subst (λ (o : List ℕ). TakesBeginning g.W.Sink.takes c.write_all.new.sink c.write_all-2.new.sink o)
    (sym (body_is c.args.session.now c.args.peer_as c.args.local_as (shown_of c.args.shown.now)))
    (begins_first _ g.met.W.Sink.joined _ _ _ _
    (subst (λ (o : List ℕ). TakesBeginning g.W.Sink.takes c.write_all.new.sink c.write_all-2.new.sink o) numbers c.in_err-write_all-2.ensures.err))))

pub returns-clause-ok : goal.returns-clause-ok
returns-clause-ok g c =
    let head = header_is c.args.session.now c.args.peer_as c.args.local_as (shown_of c.args.shown.now) c.header_of.result _ _ _ _ c.header_of.ensures
    c.parts_of-second.ensures.second c.parts_of-second.ensures.subtype c.parts_of-second.ensures.count c.count_of-count.ensures in
    let numbers = c.numbers_of.ensures ∙ ap (λ (afi : ℕ). number_octets c.args.peer_as c.args.local_as afi) c.afi_of.ensures in
    done_then c.write_behind_numbers.result _ _ (λ took. g.met.W.Sink.joined _ _ _ _ _
    (subst (λ (o : List ℕ). g.W.Sink.takes c.args.sink.now c.write_all.new.sink o) head c.in_ok-write_all.ensures.ok)
    (subst (λ (o : List ℕ). g.W.Sink.takes c.write_all.new.sink c.write_behind_numbers.new.sink o)
    (sym (body_is c.args.session.now c.args.peer_as c.args.local_as (shown_of c.args.shown.now)))
    (g.met.W.Sink.joined _ _ _ _ _
    (subst (λ (o : List ℕ). g.W.Sink.takes c.write_all.new.sink c.write_all-2.new.sink o) numbers c.in_ok-write_all-2.ensures.ok) took)))
    c.write_behind_numbers.ensures.ok

pub returns-clause-err : goal.returns-clause-err
returns-clause-err g c =
    let head = header_is c.args.session.now c.args.peer_as c.args.local_as (shown_of c.args.shown.now) c.header_of.result _ _ _ _ c.header_of.ensures
    c.parts_of-second.ensures.second c.parts_of-second.ensures.subtype c.parts_of-second.ensures.count c.count_of-count.ensures in
    let numbers = c.numbers_of.ensures ∙ ap (λ (afi : ℕ). number_octets c.args.peer_as c.args.local_as afi) c.afi_of.ensures in
    err_then c.write_behind_numbers.result _ _ (λ begun. begins_behind _ g.met.W.Sink.joined _ _ _ _ _
    (subst (λ (o : List ℕ). g.W.Sink.takes c.args.sink.now c.write_all.new.sink o) head c.in_ok-write_all.ensures.ok)
    (subst (λ (o : List ℕ). TakesBeginning g.W.Sink.takes c.write_all.new.sink c.write_behind_numbers.new.sink o)
    (sym (body_is c.args.session.now c.args.peer_as c.args.local_as (shown_of c.args.shown.now)))
    (begins_behind _ g.met.W.Sink.joined _ _ _ _ _
    (subst (λ (o : List ℕ). g.W.Sink.takes c.write_all.new.sink c.write_all-2.new.sink o) numbers c.in_ok-write_all-2.ensures.ok) begun)))
    c.write_behind_numbers.ensures.err
