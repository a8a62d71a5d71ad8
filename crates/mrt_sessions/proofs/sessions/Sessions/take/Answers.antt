use Rattle.std.proofs.Common.{◌∙◌, ◌∷◌, [], map, ap, sym, refl, rules}
use Rattle.std.proofs.lemmas.List.{map-append}
use Rattle.mrt_sessions.specs.Located.{located}
use Rattle.mrt_sessions.proofs.Gathered.{taken_one}
use Rattle.mrt_sessions.proofs.sessions.Sessions.take.Goals as goal

pub returns-in_ok-push-in-Some : goal.returns-in_ok-push-in-Some
returns-in_ok-push-in-Some g c = λ named h.
    let updates = (c.get_mut.follows.holds c.push.new.self).3 (search rules) in
    let items = ap (map located) c.in_ok-push-in-Some.ensures.items ∙ map-append located c.in-Some.records.now.items (c.args.taken ∷ []) in
    taken_one c.args.self.now c.begin.new.self _ named (located c.args.taken) c.addresses-addresses.result c.addresses-addresses.ensures h c.in_ok-begin.ensures c.in-Some.records.now c.push.new.self
    (sym c.in-Some.ensures.value) items updates refl
