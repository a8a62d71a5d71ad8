use Rattle.std.proofs.Common.{inl, inr, refl}
use Rattle.bgp_report.specs.Ladders.{lacking_pieces}
use Rattle.bgp_report.proofs.ladders.put_judged.Goals as goal

pub returns-in-Some : goal.returns-in-Some
returns-in-Some g c = λ port packets text held noted.
    let known = c.in-Some.ensures.heard port packets held in
    let put = c.put_connected.ensures known.1 in
    elim put.1 [
      | inl is ↦ (put.0, inl (c.in-Some.connection, c.possible_at.result.now, known.0, c.possible_at.ensures text noted, is), put.2)
      | inr lacking ↦ (put.0, inr lacking, put.2)
    ]

pub returns-in-None : goal.returns-in-None
returns-in-None g c = λ port packets text held noted. (lacking_pieces, inr refl, c.put_lacking.ensures)
