use Rattle.std.proofs.Common.{◌∙◌, refl, sym}
use Rattle.bgp_import.proofs.Changed.{new_talk, same_talk}
use Rattle.bgp_import.proofs.talks.Talks.hold.Goals as goal

pub returns-in_ok-insert-clause-ok : goal.returns-in_ok-insert-clause-ok
returns-in_ok-insert-clause-ok g c =
    new_talk c.args.self.now _ c.args.addresses c.new.result (sym c.contains_key.ensures ∙ c.if-not-contains_key.true) c.in_ok-insert.ensures.updates c.new.ensures

pub returns-else-not-contains_key-clause-ok : goal.returns-else-not-contains_key-clause-ok
returns-else-not-contains_key-clause-ok g c =
    same_talk c.args.self.now c.args.addresses _ refl (sym c.contains_key.ensures ∙ c.if-not-contains_key.false)
