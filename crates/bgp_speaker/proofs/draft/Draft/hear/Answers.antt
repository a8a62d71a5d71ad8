use Rattle.bgp_rib.specs.Routes.{no_routes}
use Rattle.bgp_speaker.proofs.Drafting.{on_ok, does_hear}
use Rattle.bgp_speaker.proofs.PlainLinks.{does_on_plain}
use Rattle.bgp_speaker.proofs.draft.Draft.hear.Goals as goal

pub greet-requires : goal.greet-requires
greet-requires g c =
    does_on_plain no_routes c.args.speaker.now c.args.t c.args.octets.now c.args.self.now c.take_on.new.self c.requires.offers c.requires.connected
    (c.in_ok-take_on.ensures no_routes) c.requires.plain

pub returns : goal.returns
returns g c routes = on_ok c.greet.result (c.greet.ensures routes) (λ y.
    does_hear routes c.args.speaker.now _ c.args.t c.args.octets.now c.args.self.now c.take_on.new.self c.greet.new.self (c.in_ok-take_on.ensures routes) y)
