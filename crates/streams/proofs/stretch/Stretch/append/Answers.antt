use Rattle.std.proofs.Common.{◌∙◌, List, ℕ, ap}
use Rattle.streams.specs.Given.{known_at}
use Rattle.streams.proofs.Known.{known-append}
use Rattle.streams.proofs.stretch.Stretch.append.Goals as goal

pub returns-clause-known : goal.returns-clause-known
returns-clause-known g c = λ place.
    ap (λ (os : List ℕ). known_at os c.add_run.new.runs.items place) c.in_ok-extend_from_slice.ensures.items
    ∙ known-append c.args.self.now.octets.items c.args.octets.now c.args.self.now.runs.items c.add_run.new.runs.items c.args.giver place c.requires.covered (c.in_ok-add_run.ensures.givers place)
