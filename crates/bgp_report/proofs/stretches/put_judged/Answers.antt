use Rattle.std.proofs.Common.{inl, inr}
use Rattle.bgp_report.proofs.stretches.put_judged.Goals as goal

pub returns : goal.returns
returns g c = λ text noted.
    let (pieces, is, put) = c.put_stretch.ensures in
    elim is [
      | inl its ↦ (pieces, inl (c.possible_at.result.now, c.possible_at.ensures text noted, its), put)
      | inr lost ↦ (pieces, inr lost, put)
    ]
