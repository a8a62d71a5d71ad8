use Rattle.std.proofs.Common.{◌≡◌, ◌++◌, ◌∷◌, [], Bool, false, cond, List, Result, Ok, Err, sym, ap, subst, ◌∙◌}
use Rattle.std.specs.Result.{is_err, is_ok}
use Rattle.std.specs.Option.{option_flatten}
use Rattle.bgp_rib.specs.Rooms.{route_to, LeadsBack, HasEach}
use Rattle.bgp_rib.proofs.Undoing.{write_leads_back, each_more, put_writes, put_is}
use Rattle.bgp_rib.proofs.writing.write.Goals as goal

-- what a push that was not refused leaves
pushed : {X E : Type 0} (r : Result (Unit {0}) E) (b : Bool) (xs ys zs : List X) → b ≡ is_err r → b ≡ false → xs ≡ cond (is_ok r) ys zs → xs ≡ ys
pushed (Ok u) b xs ys zs e f h = h
pushed (Err x) b xs ys zs e f h = absurd cc

pub returns-in_err-reserve-clause-noted : goal.returns-in_err-reserve-clause-noted
returns-in_err-reserve-clause-noted g c = λ h. subst (λ l. HasEach l c.args.table.now) (sym c.reserve.ensures.items) h

pub returns-in_err-had-clause-noted : goal.returns-in_err-had-clause-noted
returns-in_err-had-clause-noted g c = λ h.
    subst (HasEach c.reserve.new.self.items) (sym c.in_err-had.ensures.err) (subst (λ l. HasEach l c.args.table.now) (sym c.reserve.ensures.items) h)

pub returns-clause-back : goal.returns-clause-back
returns-clause-back g c =
    let k = c.args.destination.now in
    let ds = c.args.table.now in
    let had : c.flatten.result ≡ route_to ds k = c.flatten.ensures ∙ ap option_flatten c.in_ok-had.ensures.old in
    let log : c.push.new.self.items ≡ c.args.log.now.items ++ (k, route_to ds k) ∷ [] =
    pushed c.push.result c.is_err.result _ _ _ c.is_err.ensures.value c.if-is_err.false c.push.ensures.items
    ∙ (λ i. c.reserve.ensures.items i ++ (k, had i) ∷ []) in
    subst (λ l. LeadsBack l c.insert.new.self c.args.log.now.items ds) (sym log)
    (write_leads_back c.args.log.now.items ds k c.args.route c.insert.new.self (put_writes ds k c.args.route c.insert.new.self c.in_ok-had.ensures.entries))

pub returns-clause-noted : goal.returns-clause-noted
returns-clause-noted g c = λ h.
    let k = c.args.destination.now in
    let ds = c.args.table.now in
    let log : c.push.new.self.items ≡ c.args.log.now.items ++ (k, c.flatten.result) ∷ [] =
    pushed c.push.result c.is_err.result _ _ _ c.is_err.ensures.value c.if-is_err.false c.push.ensures.items
    ∙ ap (λ l. l ++ (k, c.flatten.result) ∷ []) c.reserve.ensures.items in
    subst (λ l. HasEach l c.insert.new.self) (sym log)
    (each_more c.args.log.now.items ds k c.args.route c.insert.new.self c.flatten.result (put_writes ds k c.args.route c.insert.new.self c.in_ok-had.ensures.entries) (put_is ds k c.args.route c.insert.new.self c.in_ok-had.ensures.entries) h)
