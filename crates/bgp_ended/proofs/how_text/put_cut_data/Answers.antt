use Rattle.std.proofs.Common.{◌≡◌, ◌∙◌, ap, refl, take}
use Rattle.bgp_text.proofs.Fresh.{IsFresh}
use Rattle.bgp_text.proofs.Pieces.{and_nothing}
use Rattle.bgp_why.specs.Cut.{keeps_joined}
use Rattle.bgp_why.specs.Room.{Room}
use Rattle.bgp_why.proofs.Fronts.{front_of}
use Rattle.bgp_lines.specs.Notifications.{error_data_text}
use Rattle.bgp_values.specs.ErrorData.{error_of}
use Rattle.bgp_ended.proofs.how_text.put_cut_data.Goals as goal

pub returns : goal.returns
returns g c =
    let text = error_data_text (error_of c.args.error) in
    let fresh : IsFresh c.new-within.result = record { empty = c.new-within.ensures.empty; calm = c.new-within.ensures.fresh } in
    let wrote = and_nothing (record { joined = λ a b d xs ys. keeps_joined a.kept.items b.kept.items d.kept.items xs ys }) c.put_error_data.ensures c.hand_over.ensures.writes in
    let empty = ap (λ (r : Room). r.kept.items) c.new-within.ensures.now ∙ c.new-room.ensures in
    let front = front_of (λ (r : Room). r.kept.items) (λ a b xs takes. takes) (λ a. refl) c.new-within.result c.hand_over.new.self text fresh wrote empty c.hand_over.ensures.none in
    let is : c.front.result.now ≡ take 256 text = rw c.into_sink.ensures at c.front.ensures ∙ front in
    c.put_cut.ensures text is
