use Rattle.std.proofs.Common.{◌∙◌, ap, List, ℕ}
use Rattle.bgp_talk.specs.Talk.{capture_of, in_hand}
use Rattle.bgp_talk.proofs.Accounts.{capture_joined}
use Rattle.bgp_talk.proofs.Joining.{went_entered, went_to}
use Rattle.bgp_talk.proofs.talking.Talk.enter_silent.Goals as goal

pub returns-clause-ok : goal.returns-clause-ok
returns-clause-ok g c =
    let e = c.in_ok-_octets.ensures.ok in
    λ owed connection left.
    went_to (ap (λ (o : List ℕ). in_hand owed o connection left c.enter.new.self.core) (e.sends ∙ c.requires.silent c.enter.new.self.core e.second e.records e.chosen))
    (went_entered g.W.Wire.tells g.C.Sink.takes (capture_of c.args.self.now.config) g.met.W.Wire.joined g.met.C.Sink.joined (capture_joined c.args.self.now.config) e owed connection left)

pub returns-clause-chosen : goal.returns-clause-chosen
returns-clause-chosen g c =
    let e = c.in_ok-_octets.ensures.ok in (e.second, e.records, e.chosen)
