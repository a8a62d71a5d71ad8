use Rattle.std.proofs.Common.{◌≡◌, ◌∙◌, ◌++◌, false, true, ◌∷◌, [], ℕ, None, Some, List, drop, take, map, ap, sym, subst, suc, refl, rules}
use Rattle.std.proofs.lemmas.List.{map-append}
use Rattle.bgp_prefix.specs.Shown.{ShownRecord}
use Rattle.mrt.specs.Reader.{shown_of}
use Rattle.mrt.specs.declared.fault.CaptureFault.{CaptureFault}
use Rattle.mrt_sessions.specs.File.{Located}
use Rattle.mrt_sessions.specs.Located.{located}
use Rattle.mrt_sessions.specs.Reading.{IsReading}
use Rattle.mrt_sessions.specs.Sessions.{is_between, records_between}
use Rattle.mrt_sessions.proofs.Order.{same_is}
use Rattle.mrt_sessions.proofs.Readings.{ReadsSoFar, all_of_it, all_read, cut_at_it, one_of_another, one_of_it, read_more, refused_at}
use Rattle.mrt_sessions.proofs.reading.read_session.Goals as goal

pub read_record-requires : goal.read_record-requires
read_record-requires g c = sym (same_is _ _ (sym c.is_between.ensures ∙ search rules))

pub returns-in-Err : goal.returns-in-Err
returns-in-Err g c =
    let a = c.args.addresses in
    let fault : CaptureFault = record { kind = c.in-Err.kind; offset = c.named-item.result.offset } in
    let between : is_between a (located c.named-item.result) ≡ true = sym c.is_between.ensures ∙ search rules in
    subst (λ (ls : List Located). IsReading a c.args.extended ls (map shown_of c.loop-named.shown.items) (Some fault))
    (cut_at_it a c.args.records.now c.loop-named.named-index c.named-item.result c.loop-named-test.true c.named-item.is between)
    (refused_at a c.args.extended (records_between a (map located (take c.loop-named.named-index c.args.records.now)))
    (records_between a (map located (drop (suc c.loop-named.named-index) c.args.records.now)))
    (map shown_of c.loop-named.shown.items) c.loop-named.last (located c.named-item.result) fault c.loop-named.invariant c.in-Err.ensures.err refl)

pub returns : goal.returns
returns g c =
    let a = c.args.addresses in
    subst (λ (ls : List Located). IsReading a c.args.extended ls (map shown_of c.loop-named.shown.items) None)
    (all_of_it a c.args.records.now c.loop-named.named-index c.loop-named-test.false)
    (all_read a c.args.extended (records_between a (map located (take c.loop-named.named-index c.args.records.now))) (map shown_of c.loop-named.shown.items) c.loop-named.last
    c.loop-named.invariant)

pub loop-named-preserved : goal.loop-named-preserved
loop-named-preserved g c =
    let a = c.args.addresses in
    let next = shown_of c.in-Ok.next in
    let front = records_between a (map located (take c.loop-named.named-index c.args.records.now)) in
    let between : is_between a (located c.named-item.result) ≡ true = sym c.is_between.ensures ∙ search rules in
    let read = read_more a c.args.extended front (map shown_of c.loop-named.shown.items) c.loop-named.last (located c.named-item.result) next c.loop-named.invariant
    c.in-Ok.ensures.ok.0 c.in-Ok.ensures.ok.1 in
    let items : map shown_of c.push.new.self.items ≡ map shown_of c.loop-named.shown.items ++ next ∷ [] =
    ap (map shown_of) c.in_ok-push-in-Ok.ensures.items ∙ map-append shown_of c.loop-named.shown.items (c.in-Ok.next ∷ []) in
    let taken = one_of_it a c.args.records.now c.loop-named.named-index c.named-item.result c.loop-named-test.true c.named-item.is between in
    subst (λ (ls : List Located). ReadsSoFar a c.args.extended ls (map shown_of c.push.new.self.items) (Some c.second_of.result)) (sym taken)
    (subst (λ (rs : List ShownRecord). ReadsSoFar a c.args.extended (front ++ located c.named-item.result ∷ []) rs (Some c.second_of.result)) (sym items)
    (subst (λ (n : ℕ). ReadsSoFar a c.args.extended (front ++ located c.named-item.result ∷ []) (map shown_of c.loop-named.shown.items ++ next ∷ []) (Some n))
    (sym c.second_of.ensures) read))

pub loop-named-preserved-then-not-is_between : goal.loop-named-preserved-then-not-is_between
loop-named-preserved-then-not-is_between g c =
    let a = c.args.addresses in
    let apart : is_between a (located c.named-item.result) ≡ false = sym c.is_between.ensures ∙ search rules in
    subst (λ (ls : List Located). ReadsSoFar a c.args.extended ls (map shown_of c.loop-named.shown.items) c.loop-named.last)
    (sym (one_of_another a c.args.records.now c.loop-named.named-index c.named-item.result c.loop-named-test.true c.named-item.is apart)) c.loop-named.invariant
