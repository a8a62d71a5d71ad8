use Rattle.std.proofs.Common.{◌≡◌, ◌∙◌, ap, refl, take}
use Rattle.bgp_names.proofs.Fresh.{IsFresh}
use Rattle.bgp_names.proofs.Pieces.{and_nothing}
use Rattle.bgp_why_parts.specs.Cut.{keeps_joined}
use Rattle.bgp_why_parts.specs.Parts.{parts_text, shown}
use Rattle.bgp_why_parts.proofs.Fronts.{front_of}
use Rattle.bgp_why_parts.specs.declared.room.Room.{Room}
use Rattle.bgp_why_parts.proofs.parts.put_parts.Goals as goal

pub returns : goal.returns
unfolding shown
returns g c =
    let text = parts_text c.args.parts in
    let fresh : IsFresh c.new-within.result = record { empty = c.new-within.ensures.empty; calm = c.new-within.ensures.fresh } in
    let wrote = and_nothing (record { joined = λ a b d xs ys. keeps_joined a.kept.items b.kept.items d.kept.items xs ys }) c.put_all.ensures c.hand_over.ensures.writes in
    let empty = ap (λ (r : Room). r.kept.items) c.new-within.ensures.now ∙ c.new-room.ensures in
    let front = front_of (λ (r : Room). r.kept.items) (λ a b xs takes. takes) (λ a. refl) c.new-within.result c.hand_over.new.self text fresh wrote empty c.hand_over.ensures.none in
    let is : c.front.result.now ≡ take 256 text = rw c.into_sink.ensures at c.front.ensures ∙ front in
    c.put_behind.ensures text is
