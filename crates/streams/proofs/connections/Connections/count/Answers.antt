use Rattle.std.proofs.Common.{◌∙◌, sym, ap}
use Rattle.std.specs.Prelude.{count_by}
use Rattle.std.proofs.lemmas.List.Sums.{length-filter}
use Rattle.streams.proofs.Numbering.{each_holding, each_length}
use Rattle.streams.proofs.connections.Connections.count.Goals as goal

pub returns : goal.returns
returns g c = λ segments holds.
    c.count_holding.ensures ∙ ap (count_by (λ it. it.has_octets)) c.deref.ensures.value
    ∙ sym (each_length _ _ (each_holding _ _ holds.each) ∙ length-filter (λ it. it.has_octets) c.args.self.now.list.items)
